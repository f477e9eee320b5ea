use Rattle.std.proofs.Common.{rules}
use Rattle.pattern_store.specs.Record.{IsKnown}
use Rattle.pattern_store.proofs.FoundLaws.{finds_at}
use Rattle.pattern_store.proofs.records.Records.find_known.Goals as goal

pub returns-then-is_liked : goal.returns-then-is_liked
returns-then-is_liked g c =
    finds_at c.args.self.now c.args.list c.args.need (λ r. IsKnown r c.args.owners c.args.known) c.loop-number.number c.loop-place.place c.in_ok-found.found c.in-Some.block.now
    c.in-Some.ensures (search rules) c.in_ok-found.ensures.some (search rules) (search rules) (search rules)

use Rattle.std.proofs.Common.{rules}
use Rattle.std.proofs.lemmas.Option.{IfSome_then}
use Rattle.pattern_store.proofs.FoundLaws.{finds_at}
use Rattle.pattern_store.proofs.records.Records.find.Goals as goal

pub returns-in-Some-place_of : goal.returns-in-Some-place_of
returns-in-Some-place_of g c =
    IfSome_then c.number_of.result c.number_of.ensures.some
    (λ found is. finds_at c.args.self.now c.args.list c.args.need _ c.loop-number.number c.in-Some-place_of.place found c.in-Some.block.now
    c.in-Some.ensures (search rules) is (search rules) (search rules) (c.in-Some-place_of.ensures.some.2, c.in-Some-place_of.ensures.some.3))

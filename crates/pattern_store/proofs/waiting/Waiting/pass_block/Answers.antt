use Rattle.std.proofs.Common.{subst}
use Rattle.pattern_store.specs.declared.record.Record.{Record}
use Rattle.pattern_store.specs.Blocks.{LosesServed}
use Rattle.pattern_store.proofs.Passing.{loses_then}
use Rattle.pattern_store.proofs.waiting.Waiting.pass_block.Goals as goal

pub returns-then-not-self-clause-loses : goal.returns-then-not-self-clause-loses
returns-then-not-self-clause-loses c =
    let now = c.pass_places.new.block in
    let new = c.end.new.block in
    let goes = c.pass_places.new.self.moved in
    let then = c.end.new.self.moved in
    loses_then c.args.self.now.told c.args.block.now now new c.args.self.now.moved goes then c.pass_places.ensures.loses
    (subst (λ (told : Record). LosesServed told now new goes then) c.pass_places.ensures.told c.end.ensures.loses)

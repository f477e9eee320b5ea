use Rattle.std.proofs.Common.{rules, arith}
use Rattle.pattern_store.specs.Blocks.{record_at}
use Rattle.pattern_store.specs.Record.{NamesNoMoreNear}
use Rattle.pattern_store.proofs.NearLaws.{names_near-Decides, some_more}
use Rattle.pattern_store.proofs.blocks.Block.may_be_served.Goals as goal

pub loop-place-preserved : goal.loop-place-preserved
loop-place-preserved c =
    some_more (λ place. NamesNoMoreNear c.args.new.now (record_at c.args.self.now place)) c.loop-place.served _ c.loop-place.place c.loop-place.invariant
    (names_near-Decides c.args.new.now (record_at c.args.self.now c.loop-place.place) (omega arith) (search (rules, c.type_inv.self)))

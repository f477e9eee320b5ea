use Rattle.std.proofs.Common.{refl, arith}
use Rattle.pattern_store.proofs.Passing.{passes_taken, loses_taken, passes_freed, loses_freed}
use Rattle.pattern_store.proofs.waiting.Waiting.pass.Goals as goal

pub returns-then-owners_named-clause-passes : goal.returns-then-owners_named-clause-passes
returns-then-owners_named-clause-passes c =
    passes_taken c.args.block.now c.lie_down-then-owners_named.new.block c.args.place c.args.self.now.moved c.lie_down-then-owners_named.ensures.block c.record-other.result c.requires c.record-other.ensures
    (omega arith)

pub returns-then-owners_named-clause-loses : goal.returns-then-owners_named-clause-loses
returns-then-owners_named-clause-loses c =
    loses_taken c.args.block.now c.lie_down-then-owners_named.new.block c.args.place c.args.self.now.moved c.lie_down-then-owners_named.ensures.block c.args.self.now.told c.record-other.result c.requires
    c.record-other.ensures

pub returns-then-is_served-clause-passes : goal.returns-then-is_served-clause-passes
returns-then-is_served-clause-passes c = passes_freed c.args.block.now c.set.new.self c.args.place _ c.set.ensures c.args.self.now.moved refl

pub returns-then-is_served-clause-loses : goal.returns-then-is_served-clause-loses
returns-then-is_served-clause-loses c =
    loses_freed c.args.block.now c.set.new.self c.args.place _ c.set.ensures c.args.self.now.told c.record-other.result c.args.self.now.moved c.record-other.ensures
    (λ masked other_masked. (c.serves-is_served.ensures masked other_masked).0 c.if-is_served.true)

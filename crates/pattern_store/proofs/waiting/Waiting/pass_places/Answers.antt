use Rattle.std.proofs.Common.{◌∙◌, subst}
use Rattle.pattern_store.specs.declared.record.Record.{Record}
use Rattle.pattern_store.specs.Blocks.{LosesServed}
use Rattle.pattern_store.proofs.Passing.{passes_then, loses_then}
use Rattle.pattern_store.proofs.waiting.Waiting.pass_places.Goals as goal

pub loop-place-preserved : goal.loop-place-preserved
loop-place-preserved c =
    let old = c.args.block.now in
    let now = c.loop-place.block in
    let new = c.pass.new.block in
    let came = c.args.self.now.moved in
    let goes = c.loop-place.self.moved in
    let then = c.pass.new.self.moved in record {
      passes = passes_then old now new came goes then c.loop-place.invariant.passes c.pass.ensures.passes;
      loses = loses_then c.args.self.now.told old now new came goes then c.loop-place.invariant.loses
          (subst (λ (told : Record). LosesServed told now new goes then) c.loop-place.invariant.told c.pass.ensures.loses);
      told = c.pass.ensures.told ∙ c.loop-place.invariant.told;
    }

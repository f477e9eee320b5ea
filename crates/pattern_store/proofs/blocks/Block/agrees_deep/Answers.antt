use Rattle.std.proofs.lemmas.Bool.Decides.{Decides-eqb, not_from_Decides}
use Rattle.pattern_store.specs.Blocks.{record_at}
use Rattle.pattern_store.proofs.Serving.{agrees_deep, differs_deep}
use Rattle.pattern_store.proofs.blocks.Block.agrees_deep.Goals as goal

pub returns-else-mask-eq0-clause-agrees : goal.returns-else-mask-eq0-clause-agrees
returns-else-mask-eq0-clause-agrees g c = λ same.
    agrees_deep (record_at c.args.self.now c.args.place) c.deep_mask-mask.result c.deep_mask-mask.ensures _ c.deep.result c.deep.ensures ((Decides-eqb _ 0).0 same)

pub returns-else-mask-eq0-clause-differs : goal.returns-else-mask-eq0-clause-differs
returns-else-mask-eq0-clause-differs g c = λ other.
    differs_deep (record_at c.args.self.now c.args.place) c.deep_mask-mask.result c.deep_mask-mask.ensures c.deep_mask-mask.type_inv _ c.deep.result c.deep.ensures
    (not_from_Decides _ (Decides-eqb _ 0) other)

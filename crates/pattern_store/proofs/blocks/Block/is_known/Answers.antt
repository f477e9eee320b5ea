use Rattle.std.proofs.lemmas.Bool.Decides.{Decides-eqb, Decides-like}
use Rattle.pattern_store.specs.Blocks.{record_at}
use Rattle.pattern_store.proofs.Serving.{known_deep, deep_agrees, deep_is_known}
use Rattle.pattern_store.proofs.blocks.Block.is_known.Goals as goal

pub returns-then-self-place-eq0 : goal.returns-then-self-place-eq0
returns-then-self-place-eq0 c =
    let r = record_at c.args.self.now c.args.place in
    let mask = c.deep_mask-mask.result in
    Decides-like _
    (known_deep r mask c.deep_mask-mask.ensures c.args.owners c.args.known c.if-self-place-ne0.false c.if-named-known.false c.if-self-place-eq0.true)
    (deep_is_known r mask c.deep_mask-mask.ensures c.deep_mask-mask.type_inv c.args.owners c.args.known)
    (Decides-eqb _ mask)

pub returns-else-self-place-eq0 : goal.returns-else-self-place-eq0
returns-else-self-place-eq0 c =
    let r = record_at c.args.self.now c.args.place in
    Decides-like _ (λ none. absurd (c.if-self-place-eq0.false none))
    (deep_agrees r c.deep_mask-mask.result c.deep_mask-mask.ensures c.deep_mask-mask.type_inv c.args.owners c.args.known)
    (Decides-eqb _ 0)

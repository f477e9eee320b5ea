use Rattle.std.proofs.Common.{arith}
use Rattle.std.proofs.lemmas.Bool.Decides.{Decides-eqb, Decides-like}
use Rattle.pattern_store.proofs.OwnerWords.{same_from_mask, mask_from_same, within_from_masks, masks_from_within}
use Rattle.pattern_store.proofs.Serving.{no_more_deep, within_deep, same_deep}
use Rattle.pattern_store.proofs.record.Record.serves_deep.Goals as goal

pub returns-then-deep-deep_mask-eq0 : goal.returns-then-deep-deep_mask-eq0
returns-then-deep-deep_mask-eq0 c =
    let one = c.args.self.now in
    let other = c.args.other.now in
    let mask = c.deep_mask-deep.result in
    let marks = c.deep_mask-deep.ensures in
    Decides-like _
    (λ same. no_more_deep one other
    (within_from_masks 8 one.depths other.depths mask c.deep_mask.result marks c.deep_mask.ensures (omega arith) (omega arith) c.if-deep-deep_mask-eq0.true)
    (same_from_mask 8 one.depths mask marks one.deep other.deep same))
    (λ more. mask_from_same 8 one.depths mask marks (omega arith) one.deep other.deep (same_deep one other more))
    (Decides-eqb _ 0)

pub returns-else-deep-deep_mask-eq0 : goal.returns-else-deep-deep_mask-eq0
returns-else-deep-deep_mask-eq0 c =
    let one = c.args.self.now in
    let other = c.args.other.now in
    Decides-like _
    (λ within. absurd (c.if-deep-deep_mask-eq0.false within))
    (λ more. masks_from_within 8 one.depths other.depths c.deep_mask-deep.result c.deep_mask.result c.deep_mask-deep.ensures c.deep_mask.ensures (omega arith) (omega arith) (within_deep one other more))
    (Decides-eqb _ 0)

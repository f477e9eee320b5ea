use Rattle.std.proofs.Common.{subst, arith}
use Rattle.pattern_store.specs.Record.{MarksSuit}
use Rattle.pattern_store.proofs.OwnerWords.{marks_word}
use Rattle.pattern_store.proofs.record.near_mask.Goals as goal

pub returns : goal.returns
returns c =
    marks_word 0 c.args.depths c.near_bits.result c.near_bits-2.result c.near_bits-3.result c.near_bits-4.result c.near_bits.ensures.small c.near_bits-2.ensures.small c.near_bits-3.ensures.small c.near_bits-4.ensures.small
    (subst (λ depth. MarksSuit 0 depth c.near_bits.result) (omega arith) c.near_bits.ensures.marks) c.near_bits-2.ensures.marks c.near_bits-3.ensures.marks
    (subst (λ depth. MarksSuit 0 depth c.near_bits-4.result) (omega arith) c.near_bits-4.ensures.marks)

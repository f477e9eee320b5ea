use Rattle.std.proofs.Common.{subst, arith}
use Rattle.pattern_store.specs.Record.{MarksSuit}
use Rattle.pattern_store.proofs.OwnerWords.{marks_word, marks_none}
use Rattle.pattern_store.proofs.record.deep_mask.Goals as goal

pub returns : goal.returns
returns c =
    marks_word 8 c.args.depths c.deep_bits.result c.deep_bits-2.result c.deep_bits-3.result c.deep_bits-4.result c.deep_bits.ensures.small c.deep_bits-2.ensures.small c.deep_bits-3.ensures.small c.deep_bits-4.ensures.small
    (subst (λ depth. MarksSuit 8 depth c.deep_bits.result) (omega arith) c.deep_bits.ensures.marks) c.deep_bits-2.ensures.marks c.deep_bits-3.ensures.marks
    (subst (λ depth. MarksSuit 8 depth c.deep_bits-4.result) (omega arith) c.deep_bits-4.ensures.marks)

pub returns-then-is_shallow : goal.returns-then-is_shallow
returns-then-is_shallow c = marks_none c.args.depths (c.is_shallow.ensures c.if-is_shallow.true)

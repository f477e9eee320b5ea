use Rattle.std.proofs.Common.{arith, ap, ◌∙◌, ◌*◌, ◌%◌, ◌^◌}
use Rattle.std.proofs.lemmas.Nat.{one_shl}
use Rattle.partition_search.proofs.CardLaws.{highest_of}
use Rattle.partition_search.proofs.words.highest.Goals as goal

pub returns : goal.returns
returns c =
    highest_of c.args.cards c.highest_bit.result c.wrapping_shl.result (omega arith) c.highest_bit.ensures.some
    (λ few. c.wrapping_shl.ensures ∙ ap (λ n. 1 * 2 ^ n % 2 ^ 64) (omega (arith, few)) ∙ one_shl c.highest_bit.result 64 few)

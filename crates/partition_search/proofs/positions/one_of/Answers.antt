use Rattle.std.proofs.Common.{◌*◌, ◌%◌, ◌^◌, ◌∙◌, ap, arith}
use Rattle.std.proofs.lemmas.Nat.{and_mask, one_shl}
use Rattle.partition_search.proofs.CardLaws.{card_small}
use Rattle.partition_search.proofs.positions.one_of.Goals as goal

pub returns : goal.returns
returns c = λ bit is.
    let few = card_small c.args.card bit (omega arith) is in
    c.wrapping_shl.ensures
    ∙ ap (λ n. 1 * 2 ^ n % 2 ^ 64) (omega (arith, few, c.start_of.ensures bit is, and_mask c.args.seat 2))
    ∙ one_shl _ 64 (omega (arith, few))

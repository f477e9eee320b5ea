use Rattle.std.proofs.Common.{◌≡◌, ◌*◌, ◌%◌, ◌^◌, ◌∙◌, ap, arith, ℕ}
use Rattle.std.specs.Prelude.{bit_and}
use Rattle.std.proofs.lemmas.Nat.{and_mask, one_shl}
use Rattle.partition_search.proofs.TrickLaws.{after_higher, after_lower, after_ruff, after_discard}
use Rattle.partition_search.proofs.positions.Trick.after.Goals as goal

-- the bit of a seat
seat_bit : (seat bit : ℕ) → bit ≡ 1 * 2 ^ (bit_and seat 3 % 32) % 2 ^ 32 → bit ≡ 2 ^ (seat % 4)
seat_bit seat bit is =
    let place : bit_and seat 3 % 32 ≡ seat % 4 = omega (arith, and_mask seat 2) in
    is ∙ ap (λ n. 1 * 2 ^ n % 2 ^ 32) place ∙ one_shl (seat % 4) 32 (omega arith)

pub returns-then-card-self : goal.returns-then-card-self
returns-then-card-self c =
    after_higher c.args.self.now c.args.seat c.args.card c.args.trumps _ c.wrapping_shl-bit.result (omega arith) (and_mask c.args.seat 2) (seat_bit c.args.seat c.wrapping_shl-bit.result c.wrapping_shl-bit.ensures)
    c.if-card-self-ne0.true c.if-card-self.true

pub returns-else-card-self : goal.returns-else-card-self
returns-else-card-self c =
    after_lower c.args.self.now c.args.seat c.args.card c.args.trumps _ c.wrapping_shl-bit.result (omega arith) (and_mask c.args.seat 2) (seat_bit c.args.seat c.wrapping_shl-bit.result c.wrapping_shl-bit.ensures)
    c.if-card-self-ne0.true c.if-card-self.false

pub returns-then-card-trumps-ne0 : goal.returns-then-card-trumps-ne0
returns-then-card-trumps-ne0 c =
    after_ruff c.args.self.now c.args.seat c.args.card c.args.trumps _ c.wrapping_shl-bit.result (omega arith) (and_mask c.args.seat 2) (seat_bit c.args.seat c.wrapping_shl-bit.result c.wrapping_shl-bit.ensures)
    c.if-card-self-ne0.false c.if-card-trumps-ne0.true

pub returns-else-card-trumps-ne0 : goal.returns-else-card-trumps-ne0
returns-else-card-trumps-ne0 c =
    after_discard c.args.self.now c.args.seat c.args.card c.args.trumps _ c.wrapping_shl-bit.result (omega arith) (and_mask c.args.seat 2) (seat_bit c.args.seat c.wrapping_shl-bit.result c.wrapping_shl-bit.ensures)
    c.if-card-self-ne0.false c.if-card-trumps-ne0.false

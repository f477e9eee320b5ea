-- One bid lower, in the numbers of the machine.
use Rattle.std.proofs.Common.{◌≡◌, ℕ, suc, ◌+◌, ◌-◌, ◌<◌, ◌≤◌, ◌^◌, refl, sym, ◌∙◌, ap, arith}
use Rattle.std.specs.Prelude.{ℤ, pos, neg_ℤ, unsigned_abs}
use Rattle.std.specs.Int.{int_min, int_max, w32, cast_signed, cast_unsigned}
use Rattle.std.proofs.lemmas.Int.{to_z-of_z, fits_signed_from_abs}
use Rattle.cards.specs.declared.seats.Side.{Side}
use Rattle.cards.specs.declared.seats.Side.TheVariants.{NorthSouth, EastWest}
use Rattle.cards.specs.Seats.{other_side}
use Rattle.par.specs.declared.bids.Bid.{Bid}
use Rattle.par.specs.Bids.{bid_number}
use Rattle.par.proofs.BidLaws.{bid_number-bid_at, one_bid}
use Rattle.par.specs.declared.contracts.Contract.{Contract}
use Rattle.par.specs.FinalScores.{gain_by}
use Rattle.par.proofs.Ladder.{rung, best, best-zero, best-suc}
use Rattle.par.proofs.Reaching.{value, north_south_value}

-- a number that the machine has read and written
abbrev pub kept : ℤ → ℤ
kept x = cast_signed w32 (cast_unsigned w32 x)

pub kept-small : (x : ℤ) → unsigned_abs x < 2 ^ 16 → kept x ≡ x
kept-small x h = to_z-of_z w32 x (fits_signed_from_abs w32 x (omega arith))

is_rung : (bid : Bid) (above : ℕ) → above ≤ 34 → bid_number bid ≡ 34 - above → rung above ≡ bid
is_rung bid above h e = one_bid (rung above) bid (bid_number-bid_at (34 - above) (omega arith) ∙ sym e)

-- the highest bid
pub first_bid : (final : Contract → ℤ) (side : Side) (bid : Bid) → bid_number bid ≡ 34 →
    final (record { side = side; bid = bid }) ≡ best final side 0
first_bid final side bid number = sym (best-zero final side ∙ ap (λ b. final (record { side = side; bid = b })) (is_rung bid 0 (omega arith) number))

-- one bid more
pub one_more : (final : Contract → ℤ) (side other : Side) (above : ℕ) (bid : Bid) (own others : ℤ) → other ≡ other_side side
    → 1 ≤ above → above < 35 → bid_number bid ≡ 34 - above → own ≡ best final side (above - 1) → others ≡ best final other (above - 1)
    → int_max own (int_min (final (record { side = side; bid = bid })) (neg_ℤ others)) ≡ best final side (above + 1 - 1)
one_more final side other above bid own others sides first last number own_best others_best =
    let now : suc (above - 1) ≡ above = omega arith in
    let up : suc (above - 1) ≡ above + 1 - 1 = omega arith in
    let at : rung (suc (above - 1)) ≡ bid = ap rung now ∙ is_rung bid above (omega arith) number in
    rw (own_best, others_best, sides, ← at) (sym (best-suc final side (above - 1)) ∙ ap (best final side) up)

-- the end, where the dealer's side may also pass
pub dealer_gain : (final : Contract → ℤ) (side other : Side) (above : ℕ) (own others : ℤ) → other ≡ other_side side → 35 ≤ above → above ≤ 35
    → own ≡ best final side (above - 1) → others ≡ best final other (above - 1) → int_max own (int_min (pos 0) (neg_ℤ others)) ≡ value final side (other_side side)
dealer_gain final side other above own others sides low high own_best others_best =
    let last : above - 1 ≡ 34 = omega arith in
    rw (own_best, others_best, sides, last) refl

pub north_south : (final : Contract → ℤ) (side : Side) → gain_by NorthSouth side (value final side (other_side side)) ≡ north_south_value final side
north_south final NorthSouth = refl
north_south final EastWest = refl

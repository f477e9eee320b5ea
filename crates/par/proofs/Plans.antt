-- A strategy by which a side gains what its bids are worth, and a strategy that holds it to that.
use Rattle.std.proofs.Common.{◌≡◌, ℕ, zero, suc, ◌<◌, Bool, true, false, None, Some, inl, inr, refl, ◌∙◌, ap, subst, arith}
use Rattle.std.specs.Prelude.{ℤ, neg_ℤ, ◌≤ℤ◌, ◌<ℤ◌, int_lt, IfSome}
use Rattle.std.specs.Int.{int_min}
use Rattle.std.proofs.lemmas.Int.{ints}
use Rattle.std.proofs.lemmas.Bool.{cases_Bool}
use Rattle.cards.specs.declared.seats.Side.{Side}
use Rattle.cards.specs.declared.seats.Side.TheVariants.{NorthSouth, EastWest}
use Rattle.cards.specs.Seats.{other_side}
use Rattle.par.specs.declared.bids.Bid.{Bid}
use Rattle.par.specs.Bids.{Supersedes}
use Rattle.par.specs.declared.contracts.Contract.{Contract}
use Rattle.par.specs.FinalScores.{gain_of}
use Rattle.par.specs.Auctions.{Call, MayBeBid, Strategy, IsLawful}
use Rattle.par.proofs.IntLaws.{neg-min-accept, neg-min-bid}
use Rattle.par.proofs.Ladder.{rung, above_of, above_of-rung, rung-above_of, above_of-below, Supersedes-rung}
use Rattle.par.proofs.Ladder.{other_side-twice, worth, best, after, best-reached}

abbrev pub contract_of : Side → Bid → Contract
contract_of side bid = record { side = side; bid = bid }

pub gain-own : (final : Contract → ℤ) (side : Side) (bid : Bid) →
    gain_of final side (Some (contract_of side bid)) ≡ final (contract_of side bid)
gain-own final NorthSouth bid = refl
gain-own final EastWest bid = refl

pub gain-other : (final : Contract → ℤ) (side : Side) (bid : Bid) →
    gain_of final side (Some (contract_of (other_side side) bid)) ≡ neg_ℤ (final (contract_of (other_side side) bid))
gain-other final NorthSouth bid = refl
gain-other final EastWest bid = refl

-- a bid if it gains more than another thing does
abbrev bid_if : Bool → Bid → Call
bid_if true bid = Some bid
bid_if false bid = None

module _ (final : Contract → ℤ) (side : Side) where
  -- the best bid among those with at most so many higher ones
  choice : ℕ → Bid
  choice low = rung (best-reached final side low).above

  -- what the side calls over the others' bid with so many higher ones
  pub reply : ℕ → Call
  reply zero = None
  reply (suc low) = bid_if (int_lt (neg_ℤ (worth final (other_side side) (suc low))) (best final side low)) (choice low)

  -- the whole strategy, where the side gains this if it passes at first
  pub plan : ℤ → Strategy
  plan passed None = bid_if (int_lt passed (best final side 34)) (choice 34)
  plan passed (Some last) = reply (above_of last)

less-true : (x y : ℤ) → int_lt x y ≡ true → x <ℤ y
less-true x y h = grind (arith, ints)

less-false : (x y : ℤ) → int_lt x y ≡ false → y ≤ℤ x
less-false x y h = grind (arith, ints)

-- what a call by `bid_if` tells
bid_if-some : (x y : ℤ) (bid made : Bid) → Some made ≡ bid_if (int_lt x y) bid → (x <ℤ y) × (made ≡ bid)
bid_if-some x y bid made e =
    elim (cases_Bool (int_lt x y)) [
      | inl t ↦ (less-true x y t, Some-inj made bid (rw t at e))
      | inr f ↦ absurd (Some-apart made (rw f at e))
    ]
  where
    Some-inj : (one other : Bid) → Some one ≡ Some other → one ≡ other
    Some-inj one other h = cc

    Some-apart : (one : Bid) → Some one ≡ None → ⊥
    Some-apart one h = cc

bid_if-none : (x y : ℤ) (bid : Bid) → None ≡ bid_if (int_lt x y) bid → y ≤ℤ x
bid_if-none x y bid e =
    elim (cases_Bool (int_lt x y)) [
      | inl t ↦ absurd (None-apart bid (rw t at e))
      | inr f ↦ less-false x y f
    ]
  where
    None-apart : (one : Bid) → None ≡ Some one → ⊥
    None-apart one h = cc

-- and a bid by it is the bid
bid_if-may : (P : Bid → Type 0) (b : Bool) (bid : Bid) → P bid → IfSome (bid_if b bid) P
bid_if-may P true bid h = h
bid_if-may P false bid h = tt

module _ (final : Contract → ℤ) (side : Side) where
  after-other : (low : ℕ) →
      after final (other_side side) (suc low)
      ≡ int_min (worth final (other_side side) (suc low)) (neg_ℤ (best final side low))
  after-other low = ap (λ s. int_min (worth final (other_side side) (suc low)) (neg_ℤ (best final s low))) (other_side-twice side)

  -- where the side accepts, it gains no more by a bid
  pub reply-none : (low : ℕ) → None ≡ reply final side low →
      neg_ℤ (after final (other_side side) low) ≤ℤ neg_ℤ (worth final (other_side side) low)
  unfolding reply
  reply-none zero e = omega (arith, ints)
  reply-none (suc low) e =
      let theirs = worth final (other_side side) (suc low) in
      let own = best final side low in
      let no_more : own ≤ℤ neg_ℤ theirs = bid_if-none (neg_ℤ theirs) own (choice final side low) e in
      rw (after-other low) (neg-min-accept theirs own no_more)

  -- where it bids, it gains what it can
  pub record Bids (low : ℕ) (bid : Bid) : Type 0 where
    pub above : ℕ
    pub within : above < low
    pub is : bid ≡ rung above
    pub gain : neg_ℤ (after final (other_side side) low) ≤ℤ after final side above

  pub reply-some : (low : ℕ) (bid : Bid) → Some bid ≡ reply final side low → Bids low bid
  unfolding reply choice
  reply-some zero bid e = absurd (Some-apart bid e)
    where
      Some-apart : (one : Bid) → Some one ≡ None → ⊥
      Some-apart one h = cc
  reply-some (suc low) bid e =
      let theirs = worth final (other_side side) (suc low) in
      let own = best final side low in
      let some = bid_if-some (neg_ℤ theirs) own (choice final side low) bid e in
      let reached = best-reached final side low in
      record {
        above = reached.above;
        within = omega (arith, reached.within);
        is = some.1;
        gain = rw (after-other low, reached.gain) (neg-min-bid theirs own some.0);
      }

  choice-may : (low : ℕ) (last : Bid) → low < above_of last → Supersedes (choice final side low) last
  unfolding choice
  choice-may low last less =
      let reached = best-reached final side low in
      subst (λ (bid : Bid). Supersedes (rung reached.above) bid) (rung-above_of last)
      (Supersedes-rung reached.above (above_of last) (omega (arith, reached.within)) (above_of-below last))

  reply-may : (low : ℕ) (last : Bid) → low ≡ above_of last → IfSome (reply final side low) (MayBeBid (Some last))
  unfolding reply
  reply-may zero last e = tt
  reply-may (suc low) last e =
      bid_if-may (MayBeBid (Some last)) (int_lt (neg_ℤ (worth final (other_side side) (suc low))) (best final side low))
      (choice final side low) (choice-may low last (omega arith))

  pub plan-lawful : (passed : ℤ) → IsLawful (plan final side passed)
  unfolding plan
  plan-lawful passed None = bid_if-may (MayBeBid None) (int_lt passed (best final side 34)) (choice final side 34) tt
  plan-lawful passed (Some last) = reply-may (above_of last) last refl

  pub plan-over : (passed : ℤ) (last : Bid) → plan final side passed (Some last) ≡ reply final side (above_of last)
  unfolding plan
  plan-over passed last = refl

  -- at first it passes only if it gains no more by a bid, and else makes the best bid
  pub first-none : (passed : ℤ) → None ≡ plan final side passed None → best final side 34 ≤ℤ passed
  unfolding plan
  first-none passed e = bid_if-none passed (best final side 34) (choice final side 34) e

  pub first-some : (passed : ℤ) (bid : Bid) → Some bid ≡ plan final side passed None →
      (passed <ℤ best final side 34) × (after final side (above_of bid) ≡ best final side 34)
  unfolding plan choice
  first-some passed bid e =
      let reached = best-reached final side 34 in
      let some = bid_if-some passed (best final side 34) (choice final side 34) bid e in
      let is : bid ≡ rung reached.above = some.1 in
      let above : above_of bid ≡ reached.above = ap above_of is ∙ above_of-rung reached.above reached.within in
      (some.0, rw above reached.gain)

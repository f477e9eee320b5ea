-- What each side gains at best by its bids, from the highest bid down.
use Rattle.std.proofs.Common.{◌≡◌, ℕ, zero, suc, ◌-◌, ◌<◌, ◌≤◌, refl, sym, ◌∙◌, arith, ⊎_elim}
use Rattle.std.proofs.lemmas.Bool.{cases_lt}
use Rattle.std.specs.Prelude.{ℤ, neg_ℤ, ◌≤ℤ◌}
use Rattle.std.specs.Int.{int_min, int_max}
use Rattle.cards.specs.declared.seats.Side.{Side}
use Rattle.cards.specs.declared.seats.Side.TheVariants.{NorthSouth, EastWest}
use Rattle.cards.specs.Seats.{other_side}
use Rattle.par.specs.declared.bids.Bid.{Bid}
use Rattle.par.specs.Bids.{bid_number, Supersedes}
use Rattle.par.proofs.BidLaws.{bid_at, bid_number-bid_at, bid_number-below, one_bid, in_order}
use Rattle.par.specs.declared.contracts.Contract.{Contract}
use Rattle.par.proofs.IntLaws.{min-left, min-right, max-left, max-right, max-one, le-trans, le-refl, neg-le}

-- the bid with so many higher ones
abbrev pub rung : ℕ → Bid
rung above = bid_at (34 - above)

-- how many bids are higher
abbrev pub above_of : Bid → ℕ
above_of bid = 34 - bid_number bid

pub above_of-rung : (above : ℕ) → above ≤ 34 → above_of (rung above) ≡ above
above_of-rung above h = rw (bid_number-bid_at (34 - above) (omega arith)) (omega arith)

pub rung-above_of : (bid : Bid) → rung (above_of bid) ≡ bid
rung-above_of bid =
    let below = bid_number-below bid in
    let number : 34 - above_of bid ≡ bid_number bid = omega arith in
    one_bid (rung (above_of bid)) bid (bid_number-bid_at (34 - above_of bid) (omega arith) ∙ number)

pub above_of-below : (bid : Bid) → above_of bid ≤ 34
above_of-below bid = omega arith

-- a bid supersedes another if fewer bids are higher
pub above_of-less : (bid other : Bid) → Supersedes bid other → above_of bid < above_of other
above_of-less bid other supersedes =
    omega (arith, (in_order bid other).0 supersedes, bid_number-below bid, bid_number-below other)

pub Supersedes-rung : (one other : ℕ) → one < other → other ≤ 34 → Supersedes (rung one) (rung other)
Supersedes-rung one other less small =
    (in_order (rung one) (rung other)).1
    (rw (bid_number-bid_at (34 - one) (omega arith), bid_number-bid_at (34 - other) (omega arith)) (omega arith))

pub other_side-twice : (side : Side) → other_side (other_side side) ≡ side
other_side-twice NorthSouth = refl
other_side-twice EastWest = refl

-- the final score of the side's contract with so many higher bids
abbrev pub worth : (Contract → ℤ) → Side → ℕ → ℤ
worth final side above = final (record { side = side; bid = rung above })

-- what a side gains at best that has to bid, and has this bid and the higher ones to choose from
pub best : (Contract → ℤ) → Side → ℕ → ℤ
best final side zero = worth final side 0
best final side (suc above) =
    int_max (best final side above)
    (int_min (worth final side (suc above)) (neg_ℤ (best final (other_side side) above)))

-- what it gains after it has made this bid: the others accept it, or bid
abbrev pub after : (Contract → ℤ) → Side → ℕ → ℤ
after final side zero = worth final side 0
after final side (suc above) = int_min (worth final side (suc above)) (neg_ℤ (best final (other_side side) above))

module _ (final : Contract → ℤ) where
  pub best-zero : (side : Side) → best final side 0 ≡ after final side 0
  unfolding best
  best-zero side = refl

  pub best-suc : (side : Side) (above : ℕ) → best final side (suc above) ≡ int_max (best final side above) (after final side (suc above))
  unfolding best
  best-suc side above = refl

  pub after-worth : (side : Side) (above : ℕ) → after final side above ≤ℤ worth final side above
  after-worth side zero = le-refl _ _ refl
  after-worth side (suc above) = min-left _ _

  pub after-best : (side : Side) (above low : ℕ) → above ≤ low → after final side above ≤ℤ best final side low
  after-best side zero zero h = le-refl _ _ (sym (best-zero side))
  after-best side (suc above) zero h = absurd (omega arith)
  after-best side above (suc low) h =
      let more = best-suc side low in
      ⊎_elim
      (λ less. rw more (le-trans _ _ _ (after-best side above low (omega arith)) (max-left _ _)))
      (λ no_less. let same : above ≡ suc low = omega arith in rw (more, same) (max-right _ _))
      (cases_lt above (suc low))

  -- which bid that is
  pub record Reached (side : Side) (low : ℕ) : Type 0 where
    pub above : ℕ
    pub within : above ≤ low
    pub gain : after final side above ≡ best final side low

  pub best-reached : (side : Side) (low : ℕ) → Reached side low
  best-reached side zero = record { above = 0; within = omega arith; gain = sym (best-zero side) }
  best-reached side (suc low) =
      let more = best-suc side low in
      let before = best-reached side low in
      ⊎_elim
      (λ e. record { above = before.above; within = omega (arith, before.within); gain = before.gain ∙ sym (more ∙ e) })
      (λ e. record { above = suc low; within = omega arith; gain = sym (more ∙ e) })
      (max-one (best final side low) (after final side (suc low)))

  -- the others may bid
  pub after-others : (side : Side) (higher above : ℕ) → higher < above → after final side above ≤ℤ neg_ℤ (after final (other_side side) higher)
  after-others side higher zero h = absurd (omega arith)
  after-others side higher (suc above) h =
      le-trans _ _ _ (min-right _ _) (neg-le _ _ (after-best (other_side side) higher above (omega arith)))

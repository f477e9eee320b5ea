-- By its plan each side gets its share of the value, whatever the other side calls.
use Rattle.std.proofs.Common.{◌≡◌, ℕ, List, [], ◌∷◌, Option, None, Some, refl, sym, ◌∙◌, ap, arith}
use Rattle.std.specs.Prelude.{ℤ, pos, neg_ℤ, ◌≤ℤ◌}
use Rattle.std.specs.Int.{int_min, int_max}
use Rattle.cards.specs.declared.seats.Side.{Side}
use Rattle.cards.specs.declared.seats.Side.TheVariants.{NorthSouth, EastWest}
use Rattle.cards.specs.declared.seats.Seat.{Seat}
use Rattle.cards.specs.declared.suits.Trump.{Trump}
use Rattle.cards.specs.Seats.{other_side, side_of}
use Rattle.par.specs.declared.bids.Bid.{Bid}
use Rattle.par.specs.declared.contracts.Contract.{Contract}
use Rattle.par.specs.declared.vulnerable_sides.VulnerableSides.{VulnerableSides}
use Rattle.par.specs.FinalScores.{gain_of, final_score}
use Rattle.par.specs.Auctions.{Call, GoesOn, IsAuction, contract_after, FollowsAfter, CanReach}
use Rattle.par.specs.Par.{IsPar}
use Rattle.par.proofs.IntLaws.{neg-neg, le-trans, le-refl, le-from_lt, neg-le, min-left, min-right, max-left, max-least, hold-passed, hold-bid}
use Rattle.par.proofs.Ladder.{above_of, above_of-rung, rung-above_of, above_of-below, above_of-less}
use Rattle.par.proofs.Ladder.{other_side-twice, worth, best, after, after-worth, after-best, after-others}
use Rattle.par.proofs.Plans.{contract_of, gain-own, gain-other, plan, plan-lawful, reply-none, reply-some, plan-over, first-none, first-some}

-- the final score of a contract by the number of higher bids
pub worth-is : (final : Contract → ℤ) (side : Side) (bid : Bid) → worth final side (above_of bid) ≡ final (contract_of side bid)
worth-is final side bid = ap (λ b. final (contract_of side b)) (rung-above_of bid)

-- how the auction ends after a pass, and how it goes on after a bid
ended : (turn : Side) (contract : Option Contract) (calls : List Call) → calls ≡ [] →
    contract_after turn contract calls ≡ contract
ended turn contract calls e = rw e refl

module _ (final : Contract → ℤ) (side : Side) (passed : ℤ) where
  abbrev Own : List Call → Type 0
  Own calls =
      (bid : Bid) → GoesOn (Some bid) calls
      → FollowsAfter side (plan final side passed) (other_side side) (Some bid) calls
      → after final side (above_of bid)
      ≤ℤ gain_of final side (contract_after (other_side side) (Some (contract_of side bid)) calls)

  abbrev Others : List Call → Type 0
  Others calls =
      (bid : Bid) → GoesOn (Some bid) calls
      → FollowsAfter side (plan final side passed) side (Some bid) calls
      → neg_ℤ (after final (other_side side) (above_of bid))
      ≤ℤ gain_of final side (contract_after side (Some (contract_of (other_side side) bid)) calls)

  -- after its own bid, and after one of the others
  pub keeps : (calls : List Call) → Own calls × Others calls
  keeps [] = (λ bid goes follows. absurd goes, λ bid goes follows. absurd goes)
  keeps (None ∷ calls) = (
    λ bid goes follows.
        rw (ended (other_side (other_side side)) (Some (contract_of side bid)) calls goes, gain-own final side bid, ← worth-is final side bid)
        (after-worth final side (above_of bid)),
    λ bid goes follows.
        let accepts : None ≡ plan final side passed (Some bid) = follows.0 refl in
        rw (ended (other_side side) (Some (contract_of (other_side side) bid)) calls goes, gain-other final side bid, ← worth-is final (other_side side) bid)
        (reply-none final side (above_of bid) (accepts ∙ plan-over final side passed bid)),
  )
  keeps (Some higher ∷ calls) =
      let more = keeps calls in (
        λ bid goes follows.
            let less = above_of-less higher bid goes.0 in
            let next = rw (other_side-twice side) at follows.1 in
            rw (other_side-twice side)
            (le-trans _ _ _ (after-others final side (above_of higher) (above_of bid) less) (more.1 higher goes.1 next)),
        λ bid goes follows.
            let bids : Some higher ≡ plan final side passed (Some bid) = follows.0 refl in
            let chosen = reply-some final side (above_of bid) higher (bids ∙ plan-over final side passed bid) in
            let above : above_of higher ≡ chosen.above = ap above_of chosen.is ∙ above_of-rung chosen.above (omega (arith, chosen.within, above_of-below bid)) in
            let gain : neg_ℤ (after final (other_side side) (above_of bid)) ≤ℤ after final side (above_of higher) = rw above chosen.gain in
            le-trans _ _ _ gain (more.0 higher goes.1 follows.1),
      )

-- The value for the dealer's side: it may bid; if it passes, the others may bid, and if they pass too, nobody gains.
abbrev pub value : (Contract → ℤ) → Side → Side → ℤ
value final dealer others = int_max (best final dealer 34) (int_min (pos 0) (neg_ℤ (best final others 34)))

module _ (final : Contract → ℤ) (dealer : Side) where
  abbrev first_pass : ℤ
  first_pass = int_min (pos 0) (neg_ℤ (best final (other_side dealer) 34))

  -- after the dealer's side has passed
  after_pass : (calls : List Call) → GoesOn None calls
      → FollowsAfter dealer (plan final dealer first_pass) (other_side dealer) None calls
      → first_pass ≤ℤ gain_of final dealer (contract_after (other_side dealer) None calls)
  after_pass [] goes follows = absurd goes
  after_pass (None ∷ calls) goes follows =
      rw (ended (other_side (other_side dealer)) None calls goes) (min-left (pos 0) (neg_ℤ (best final (other_side dealer) 34)))
  after_pass (Some bid ∷ calls) goes follows =
      let next = rw (other_side-twice dealer) at follows.1 in
      let most = after-best final (other_side dealer) (above_of bid) 34 (above_of-below bid) in
      rw (other_side-twice dealer)
      (le-trans _ _ _ (min-right (pos 0) (neg_ℤ (best final (other_side dealer) 34)))
      (le-trans _ _ _ (neg-le _ _ most) ((keeps final dealer first_pass calls).1 bid goes.1 next)))

  dealer_gains : (calls : List Call) → IsAuction calls
      → FollowsAfter dealer (plan final dealer first_pass) dealer None calls
      → value final dealer (other_side dealer) ≤ℤ gain_of final dealer (contract_after dealer None calls)
  dealer_gains [] auction follows = absurd auction
  dealer_gains (None ∷ calls) auction follows =
      let none = first-none final dealer first_pass (follows.0 refl) in
      le-trans _ _ _ (max-least (best final dealer 34) first_pass first_pass none (le-refl _ _ refl))
      (after_pass calls auction follows.1)
  dealer_gains (Some bid ∷ calls) auction follows =
      let some = first-some final dealer first_pass bid (follows.0 refl) in
      le-trans _ _ _ (max-least (best final dealer 34) first_pass (after final dealer (above_of bid))
      (le-refl _ _ (sym some.1)) (rw some.1 (le-from_lt first_pass (best final dealer 34) some.0)))
      ((keeps final dealer first_pass calls).0 bid auction.1 follows.1)

  pub dealer_reaches : CanReach final dealer dealer (value final dealer (other_side dealer))
  dealer_reaches = record {
    strategy = plan final dealer first_pass;
    lawful = plan-lawful final dealer first_pass;
    enough = dealer_gains;
  }

module _ (final : Contract → ℤ) (side : Side) where
  abbrev share : ℤ
  share = neg_ℤ (value final (other_side side) side)

  -- after the dealer's side has passed
  after_their_pass : (calls : List Call) → GoesOn None calls
      → FollowsAfter side (plan final side (pos 0)) side None calls
      → share ≤ℤ gain_of final side (contract_after side None calls)
  after_their_pass [] goes follows = absurd goes
  after_their_pass (None ∷ calls) goes follows =
      let none = first-none final side (pos 0) (follows.0 refl) in
      rw (ended (other_side side) None calls goes) (hold-passed (best final (other_side side) 34) (best final side 34) none)
  after_their_pass (Some bid ∷ calls) goes follows =
      let some = first-some final side (pos 0) bid (follows.0 refl) in
      le-trans _ _ _ (rw some.1 (hold-bid (best final (other_side side) 34) (best final side 34) some.0))
      ((keeps final side (pos 0) calls).0 bid goes.1 follows.1)

  others_gain : (calls : List Call) → IsAuction calls
      → FollowsAfter side (plan final side (pos 0)) (other_side side) None calls
      → share ≤ℤ gain_of final side (contract_after (other_side side) None calls)
  others_gain [] auction follows = absurd auction
  others_gain (None ∷ calls) auction follows =
      let next = rw (other_side-twice side) at follows.1 in
      rw (other_side-twice side) (after_their_pass calls auction next)
  others_gain (Some bid ∷ calls) auction follows =
      let next = rw (other_side-twice side) at follows.1 in
      let most = after-best final (other_side side) (above_of bid) 34 (above_of-below bid) in
      rw (other_side-twice side)
      (le-trans _ _ _ (neg-le _ _ (le-trans _ _ _ most (max-left (best final (other_side side) 34) _)))
      ((keeps final side (pos 0) calls).1 bid auction.1 next))

  pub others_reach : CanReach final (other_side side) side share
  others_reach = record {
    strategy = plan final side (pos 0);
    lawful = plan-lawful final side (pos 0);
    enough = others_gain;
  }

-- the value as a score of North and South
abbrev pub north_south_value : (Contract → ℤ) → Side → ℤ
north_south_value final NorthSouth = value final NorthSouth EastWest
north_south_value final EastWest = neg_ℤ (value final EastWest NorthSouth)

pub value-reached : (final : Contract → ℤ) (dealer : Side) →
    CanReach final dealer NorthSouth (north_south_value final dealer)
    × CanReach final dealer EastWest (neg_ℤ (north_south_value final dealer))
value-reached final NorthSouth = (dealer_reaches final NorthSouth, others_reach final EastWest)
value-reached final EastWest = (
  others_reach final NorthSouth,
  rw (neg-neg (value final EastWest NorthSouth)) (dealer_reaches final EastWest),
)

pub value_is_par : (tricks : Seat → Trump → ℕ) (dealer : Seat) (vulnerable : VulnerableSides) →
    IsPar tricks dealer vulnerable (north_south_value (final_score tricks vulnerable) (side_of dealer))
value_is_par tricks dealer vulnerable =
    let reached = value-reached (final_score tricks vulnerable) (side_of dealer) in
    record { north_south = reached.0; east_west = reached.1 }

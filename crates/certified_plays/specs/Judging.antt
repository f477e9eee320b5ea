-- When claims show what a play is worth after some of its cards, and what is wrong of them otherwise.
use Rattle.std.specs.Prelude.{◌≡◌, ℕ, ◌-◌, ◌<◌, ◌≤◌, List, Option, None, Some, slice_get}
use Rattle.std.specs.Option.{option_flatten}
use Rattle.cards.specs.declared.seats.Side.{Side}
use Rattle.cards.specs.declared.seats.Side.TheVariants.{NorthSouth, EastWest}
use Rattle.cards.specs.declared.pack.Card.{Card}
use Rattle.cards.specs.Deal.{size_of}
use Rattle.play_rules.specs.History.{Opening}
use Rattle.play_rules.specs.Legal.{IsUnfinished}
use Rattle.play_claims.specs.declared.claims.PlayClaim.{PlayClaim}
use Rattle.play_values.specs.PlayValues.{Recorded, first_cards, IsValueAt}
use Rattle.certified_plays.specs.declared.proofs.PlayProofs.{PlayProofs}
use Rattle.certified_plays.specs.declared.faults.ValueFault.{ValueFault}
use Rattle.certified_plays.specs.declared.faults.ValueFault.TheVariants as faults
use Rattle.certified_plays.specs.declared.faults.PlayEntry.{PlayEntry}
use Rattle.certified_plays.specs.declared.faults.PlayEntry.TheVariants.{Known, Unknown}
use Rattle.certified_plays.specs.Proofs.{ShowsSide, IsSideFault}

-- ---- one claim
-- both sides' nodes show what the claim says
pub record IsShownClaim (proofs : PlayProofs) (opening : Opening) (history : List Card) (claim : PlayClaim)
    : Type 0 where
  pub within : claim.tricks ≤ size_of opening.deal
  pub north_south : ShowsSide proofs opening history NorthSouth claim.tricks claim.ns
  pub east_west : ShowsSide proofs opening history EastWest (size_of opening.deal - claim.tricks) claim.ew

-- a fault that the claim has
abbrev pub IsClaimFault : PlayProofs → Opening → List Card → PlayClaim → ValueFault → Type 0
IsClaimFault proofs opening history claim faults.ClaimMissing = ⊥
IsClaimFault proofs opening history claim faults.TricksTooLarge = size_of opening.deal < claim.tricks
IsClaimFault proofs opening history claim (faults.NorthSouth fault) =
    IsSideFault proofs opening history NorthSouth claim.tricks claim.ns fault
IsClaimFault proofs opening history claim (faults.EastWest fault) =
    IsSideFault proofs opening history EastWest (size_of opening.deal - claim.tricks) claim.ew fault

-- the tricks of a side, if North and South take this many
abbrev pub tricks_of_side : Side → ℕ → ℕ → ℕ
tricks_of_side NorthSouth size tricks = tricks
tricks_of_side EastWest size tricks = size - tricks

-- ---- the claims of a play
-- the claim after this many cards, if there is one
abbrev pub claim_after : List (Option PlayClaim) → ℕ → Option PlayClaim
claim_after claims count = option_flatten (slice_get claims count)

-- the claim after the first cards is shown, and says that declarer's side takes this many tricks
pub record IsClaimed (proofs : PlayProofs) (claims : List (Option PlayClaim)) (play : Recorded) (count tricks : ℕ)
    : Type 0 where
  pub claim : PlayClaim
  pub there : claim_after claims count ≡ Some claim
  pub shown : IsShownClaim proofs play.position.opening (first_cards play count) claim
  pub tricks_are : tricks ≡ tricks_of_side play.declarers (size_of play.position.opening.deal) claim.tricks

-- nothing is claimed after the first cards, or the claim has this fault
abbrev pub IsValueFault : PlayProofs → List (Option PlayClaim) → Recorded → ℕ → ValueFault → Type 0
IsValueFault proofs claims play count faults.ClaimMissing = claim_after claims count ≡ None
IsValueFault proofs claims play count fault =
    (claim : PlayClaim) × (claim_after claims count ≡ Some claim)
    × IsClaimFault proofs play.position.opening (first_cards play count) claim fault

-- cards are left after the first ones
abbrev pub AreLeft : Recorded → ℕ → Type 0
AreLeft play count = IsUnfinished play.position.opening (first_cards play count)

-- The judgement of the value after the first cards: the value that is shown, or why it isn't shown. After the last card
-- of a layout nothing has to be shown.
abbrev pub IsJudged : PlayProofs → List (Option PlayClaim) → Recorded → ℕ → PlayEntry → Type 0
IsJudged proofs claims play count (Known tricks) =
    IsValueAt play count tricks × (AreLeft play count → IsClaimed proofs claims play count tricks)
IsJudged proofs claims play count (Unknown fault) = AreLeft play count × IsValueFault proofs claims play count fault

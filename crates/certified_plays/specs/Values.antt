-- The values of a play that certificates show.
use Rattle.std.specs.Prelude.{◌≡◌, ℕ, ◌+◌, ◌≤◌, ◌⊎◌, List, length, map, Option, None, Some, slice_index_or}
use Rattle.play_claims.specs.declared.claims.PlayClaim.{PlayClaim}
use Rattle.play_values.specs.PlayValues.{Recorded, first_cards, ArePlayValues, IsLoss}
use Rattle.certified_plays.specs.declared.proofs.PlayProofs.{PlayProofs}
use Rattle.certified_plays.specs.declared.faults.ValueFault.TheVariants.{ClaimMissing}
use Rattle.certified_plays.specs.declared.faults.PlayEntry.{PlayEntry}
use Rattle.certified_plays.specs.declared.faults.PlayEntry.TheVariants.{Known, Unknown}
use Rattle.certified_plays.specs.Judging.{IsJudged}

-- a recorded play, and for each number of first cards its value, or why it isn't shown
pub record ShownPlay : Type 0 where
  pub play : Recorded
  pub entries : List PlayEntry

-- the entry for this many first cards
abbrev pub entry_at : List PlayEntry → ℕ → PlayEntry
entry_at entries count = slice_index_or entries count (Unknown ClaimMissing)

-- the value of an entry, if it is known
abbrev pub known_in : PlayEntry → Option ℕ
known_in (Known tricks) = Some tricks
known_in (Unknown fault) = None

-- the values that are known
abbrev pub known_of : List PlayEntry → List (Option ℕ)
known_of entries = map known_in entries

-- each entry that is known is the value
abbrev pub AreShownValues : Recorded → List PlayEntry → Type 0
AreShownValues play entries = ArePlayValues play (known_of entries)

-- the entries are the judgements of the claims
abbrev pub AreJudged : PlayProofs → List (Option PlayClaim) → Recorded → ShownPlay → Type 0
AreJudged proofs claims play shown =
    (shown.play ≡ play)
    × ((count : ℕ) → count ≤ length play.position.history
    → IsJudged proofs claims play count (entry_at shown.entries count))

-- the value for this many first cards, if it is known
abbrev pub value_at : ShownPlay → ℕ → Option ℕ
value_at shown count = known_in (entry_at shown.entries count)

-- the value before the card in this place isn't known, or the value after it
abbrev pub IsLossUnknown : ShownPlay → ℕ → Type 0
IsLossUnknown shown place = (value_at shown place ≡ None) ⊎ (value_at shown (place + 1) ≡ None)

-- both are known, and the card in this place loses this many tricks
pub record IsLossAt (shown : ShownPlay) (place lost : ℕ) : Type 0 where
  pub before : ℕ
  pub after : ℕ
  pub before_is : value_at shown place ≡ Some before
  pub after_is : value_at shown (place + 1) ≡ Some after
  pub loss : IsLoss shown.play.position.opening shown.play.declarers (first_cards shown.play place) before after lost

-- The rule by which a call is answered.
use Rattle.std.specs.Prelude.{◌≡◌, ◌≢◌, ◌⊎◌, ℕ, ◌<◌, ◌≤◌, nat_lt, if◌then◌else◌}
use Rattle.std.specs.Prelude.{ℤ, pos, negsuc, ◌<ℤ◌, List, All, Contains}
use Rattle.card_values.specs.declared.values.CardValue.{CardValue}
use Rattle.dds_calls.specs.declared.board_shapes.Ask.{Ask}
use Rattle.dds_calls.specs.declared.rules.Rule.{Rule}
use Rattle.dds_calls.specs.declared.rules.Rule.TheVariants.{LastTrick, OneGroup, AllCards, CardsAlone, Target, Best}

-- no card leads to more tricks, and some card leads to as many
pub record IsBest (values : List CardValue) (best : ℕ) : Type 0 where
  pub most : All (λ value. value.tricks ≤ best) values
  pub reached : (top : CardValue) × Contains values top × (top.tricks ≡ best)

-- it is not the last trick, and not a single group with mode 0
abbrev pub IsOpen : Ask → ℕ → ℕ → Type 0
IsOpen ask left groups = (4 < left) × (ask.mode ≡ pos 0 → groups ≢ 1)

-- not all cards are asked for
abbrev pub IsNarrow : Ask → ℕ → ℕ → Type 0
IsNarrow ask left groups = IsOpen ask left groups × (ask.solutions ≢ pos 3)

-- The first rule that applies. It depends on the number of cards left in the hands, and on the number of groups.
abbrev pub IsRule : Ask → ℕ → ℕ → List CardValue → Rule → Type 0
IsRule ask left groups values LastTrick = left ≤ 4
IsRule ask left groups values OneGroup = (4 < left) × (ask.mode ≡ pos 0) × (groups ≡ 1)
IsRule ask left groups values AllCards = IsOpen ask left groups × (ask.solutions ≡ pos 3)
IsRule ask left groups values CardsAlone = IsNarrow ask left groups × (ask.target ≡ pos 0)
IsRule ask left groups values (Target least) =
    IsNarrow ask left groups × (ask.target ≡ pos least) × (1 ≤ least)
IsRule ask left groups values (Best best) = IsNarrow ask left groups × (ask.target ≡ negsuc 0) × IsBest values best

-- the fewest tricks of the lines that are given
abbrev pub least_of : Rule → ℕ
least_of (Target least) = least
least_of (Best best) = best
least_of LastTrick = 0
least_of OneGroup = 0
least_of AllCards = 0
least_of CardsAlone = 0

-- the score of a line by its tricks
abbrev pub IsScore : Ask → Rule → ℕ → ℤ → Type 0
IsScore ask LastTrick tricks score =
    ((ask.target ≡ pos 0) × (ask.solutions <ℤ pos 3) × (score ≡ pos 0))
    ⊎ ((ask.target ≡ pos 0 → ask.solutions <ℤ pos 3 → ⊥) × (score ≡ pos tricks))
IsScore ask OneGroup tricks score = score ≡ negsuc 1
IsScore ask AllCards tricks score = score ≡ pos tricks
IsScore ask CardsAlone tricks score = score ≡ pos 0
IsScore ask (Target least) tricks score = score ≡ pos least
IsScore ask (Best best) tricks score = score ≡ pos best

-- the first score if no card reaches the target
abbrev pub empty_score : Rule → ℤ
empty_score (Target least) = if nat_lt 1 least then negsuc 0 else pos 0
empty_score (Best best) = pos 0
empty_score LastTrick = pos 0
empty_score OneGroup = pos 0
empty_score AllCards = pos 0
empty_score CardsAlone = pos 0

-- one line is given if one solution is asked for
abbrev pub IsChoosy : Rule → Type 0
IsChoosy (Target least) = Unit {0}
IsChoosy (Best best) = Unit {0}
IsChoosy CardsAlone = Unit {0}
IsChoosy LastTrick = ⊥
IsChoosy OneGroup = ⊥
IsChoosy AllCards = ⊥

-- The lines of a call, written as DDS has them.
use Rattle.std.specs.Prelude.{◌≡◌, ◌⊎◌, ℕ, ◌+◌, ◌≤◌, nat_eq, if◌then◌else◌, ℤ, pos, List, [], ◌∷◌, length, take, Some}
use Rattle.std.specs.Prelude.{slice_get, slice_index_or}
use Rattle.cards.specs.Pack.{suit_number, rank_number}
use Rattle.dds_calls.specs.declared.board_shapes.Ask.{Ask}
use Rattle.dds_calls.specs.declared.board_shapes.FutureTricks.{FutureTricks}
use Rattle.dds_calls.specs.declared.lines.Line.{Line}
use Rattle.dds_calls.specs.declared.rules.Rule.{Rule}
use Rattle.dds_calls.specs.Rules.{IsChoosy, IsScore, empty_score}

-- the number in a place
abbrev pub at_place : List ℤ → ℕ → ℤ
at_place numbers place = slice_index_or numbers place (pos 0)

-- the numbers in a place are those of the line
pub record IsLineAt (ask : Ask) (rule : Rule) (told : FutureTricks) (place : ℕ) (line : Line) : Type 0 where
  pub suit : at_place told.suit place ≡ pos (suit_number line.card.suit)
  pub rank : at_place told.rank place ≡ pos (rank_number line.card.rank + 2)
  pub equals : at_place told.equals place ≡ pos line.equals
  pub score : IsScore ask rule line.tricks (at_place told.score place)

-- a place without a line has zeros, except that the first score may say that no card reaches the target
pub record IsBlankAt (rule : Rule) (told : FutureTricks) (place : ℕ) : Type 0 where
  pub suit : at_place told.suit place ≡ pos 0
  pub rank : at_place told.rank place ≡ pos 0
  pub equals : at_place told.equals place ≡ pos 0
  pub score : at_place told.score place ≡ (if nat_eq place 0 then empty_score rule else pos 0)

-- each line has a place, in order, and the other places are blank
pub record Tells (ask : Ask) (rule : Rule) (lines : List Line) (told : FutureTricks) : Type 0 where
  pub nodes : told.nodes ≡ pos 0
  pub cards : told.cards ≡ pos (length lines)
  pub each : (place : ℕ) (line : Line) → slice_get lines place ≡ Some line → IsLineAt ask rule told place line
  pub rest : (place : ℕ) → length lines ≤ place → IsBlankAt rule told place

-- all lines are given, or only the first if one solution is asked for
abbrev pub AreShown : Ask → Rule → List Line → List Line → Type 0
AreShown ask rule lines shown =
    ((ask.solutions ≡ pos 1) × IsChoosy rule × (shown ≡ take 1 lines))
    ⊎ ((ask.solutions ≡ pos 1 → IsChoosy rule → ⊥) × (shown ≡ lines))

-- the struct has the lines that are given
pub record IsWritten (ask : Ask) (rule : Rule) (lines : List Line) (told : FutureTricks) : Type 0 where
  pub shown : List Line
  pub are_shown : AreShown ask rule lines shown
  pub tells : Tells ask rule shown told

-- an answer without lines
abbrev pub zeros : List ℤ
zeros =
    pos 0 ∷ pos 0 ∷ pos 0 ∷ pos 0 ∷ pos 0 ∷ pos 0 ∷ pos 0 ∷ pos 0 ∷ pos 0 ∷ pos 0 ∷ pos 0 ∷ pos 0 ∷ pos 0 ∷ []

abbrev pub blank_with : ℤ → FutureTricks
blank_with first =
    record {
      nodes = pos 0;
      cards = pos 0;
      suit = zeros;
      rank = zeros;
      equals = zeros;
      score =
          first ∷ pos 0 ∷ pos 0 ∷ pos 0 ∷ pos 0 ∷ pos 0 ∷ pos 0 ∷ pos 0 ∷ pos 0 ∷ pos 0 ∷ pos 0 ∷ pos 0 ∷ pos 0 ∷ [];
    }

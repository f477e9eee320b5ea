-- Strategies, and the tricks that a side can win. A strategy is a finite map from whole histories to cards. Nothing
-- here knows of positions, of a search or of a best move.
use Rattle.std.specs.Prelude.{◌≡◌, ◌==◌, ◌&&◌, ℕ, ◌≤◌, Bool, true, false, List}
use Rattle.std.specs.Prelude.{[], ◌∷◌, ◌++◌, Option, None, Some, if◌then◌else◌}
use Rattle.cards.specs.declared.seats.Side.{Side}
use Rattle.cards.specs.declared.pack.Card.{Card}
use Rattle.cards.specs.Pack.{card_number}
use Rattle.cards.specs.Seats.{side_of}
use Rattle.play_rules.specs.History.{Opening, tricks_of}
use Rattle.play_rules.specs.Legal.{CanPlay, IsLegalHistory, IsPlay, IsUnfinished, seat_to_play}

-- an entry of a strategy: the card to play after one history
pub record Choice : Type 0 where
  pub history : List Card
  pub card : Card

-- a strategy; if two entries have the same history, the first counts
abbrev pub Strategy : Type 0
Strategy = List Choice

-- whether two histories are the same
abbrev pub is_same_history : List Card → List Card → Bool
is_same_history [] [] = true
is_same_history (first ∷ rest) (first' ∷ rest') =
    (card_number first == card_number first') && is_same_history rest rest'
is_same_history _ _ = false

-- the strategy's card after a history, if it has an entry
abbrev pub choice_of : Strategy → List Card → Option Card
choice_of [] history = None
choice_of (choice ∷ rest) history =
    if is_same_history choice.history history then Some choice.card else choice_of rest history

-- it is the side's turn after the history
abbrev pub IsTurnOf : Opening → Side → List Card → Type 0
IsTurnOf opening side history = side_of (seat_to_play opening history) ≡ side

-- The cards played after the history follow the strategy: at each turn of the side the card is the strategy's.
abbrev pub FollowsAfter : Opening → Side → Strategy → List Card → List Card → Type 0
FollowsAfter opening side strategy history [] = Unit {0}
FollowsAfter opening side strategy history (card ∷ cards) =
    (IsTurnOf opening side history → choice_of strategy history ≡ Some card)
    × FollowsAfter opening side strategy (history ++ card ∷ []) cards

-- the strategy has a card for this history, and the card may be played
pub record HasLegalChoice (opening : Opening) (strategy : Strategy) (history : List Card) : Type 0 where
  pub card : Card
  pub chosen : choice_of strategy history ≡ Some card
  pub legal : CanPlay opening history card

-- Every legal unfinished history that follows the strategy after this one, with the side to play, has a legal choice.
abbrev pub IsLawfulAfter : Opening → Side → Strategy → List Card → Type 0
IsLawfulAfter opening side strategy history =
    (cards : List Card) → IsLegalHistory opening (history ++ cards) → IsUnfinished opening (history ++ cards)
    → FollowsAfter opening side strategy history cards → IsTurnOf opening side (history ++ cards)
    → HasLegalChoice opening strategy (history ++ cards)

-- Every play that follows the strategy after the history has at least this many tricks for the side.
abbrev pub HasTricksIn : Opening → Side → ℕ → Strategy → List Card → Type 0
HasTricksIn opening side tricks strategy history =
    (cards : List Card) → IsPlay opening (history ++ cards) → FollowsAfter opening side strategy history cards
    → tricks ≤ tricks_of side opening.trump opening.leader (history ++ cards)

-- The side can win this many tricks after the history, including the tricks in it.
pub record CanWin (opening : Opening) (side : Side) (tricks : ℕ) (history : List Card) : Type 0 where
  pub strategy : Strategy
  pub lawful : IsLawfulAfter opening side strategy history
  pub enough : HasTricksIn opening side tricks strategy history

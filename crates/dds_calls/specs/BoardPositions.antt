-- The position of a board: the cards of the current trick, the layout when that trick began, and the play since.
use Rattle.std.specs.Prelude.{◌≡◌, ◌≢◌, ◌⊎◌, ◌↔◌, ℕ, ◌+◌, ◌-◌, ◌%◌, ◌<◌, nat_lt, if◌then◌else◌}
use Rattle.std.specs.Prelude.{ℤ, pos, List, length, Some, slice_get, slice_index_or}
use Rattle.std.specs.Int.RustNames.{unsigned_abs}
use Rattle.cards.specs.declared.seats.Seat.{Seat}
use Rattle.cards.specs.declared.pack.Card.{Card}
use Rattle.cards.specs.Pack.{suit_number, rank_number}
use Rattle.cards.specs.Seats.{seat_in_place, seat_number}
use Rattle.cards.specs.Deal.{Deal, IsLayout, holder_of}
use Rattle.play_rules.specs.Legal.{IsLegalHistory}
use Rattle.play_rules.specs.Position.{Position}
use Rattle.dds_calls.specs.declared.board_shapes.BoardDeal.{BoardDeal}
use Rattle.dds_calls.specs.Denominations.{denomination_number}
use Rattle.dds_calls.specs.Hands.{AreOfCards, HasCard, cards_in, size_of, words_of}

-- ---- the cards of the current trick
-- the suit and the rank that are given for a card of the current trick
abbrev pub suit_given : BoardDeal → ℕ → ℤ
suit_given board place = slice_index_or board.current_trick_suit place (pos 0)

abbrev pub rank_given : BoardDeal → ℕ → ℤ
rank_given board place = slice_index_or board.current_trick_rank place (pos 0)

-- these are the card's numbers: suits from 0 for spades, ranks from 2 for the deuce
abbrev pub IsNumbered : Card → ℤ → ℤ → Type 0
IsNumbered card suit rank = (pos (suit_number card.suit) ≡ suit) × (pos (rank_number card.rank + 2) ≡ rank)

-- the card is given in this place of the current trick
abbrev pub IsGiven : BoardDeal → ℕ → Card → Type 0
IsGiven board place card = IsNumbered card (suit_given board place) (rank_given board place)

-- some numbers of the current trick are wrong: a rank isn't 0 and no card has the numbers, or a rank follows a 0
abbrev pub HasStrayTrick : BoardDeal → Type 0
HasStrayTrick board =
    (place : ℕ) × (place < 3) × (rank_given board place ≢ pos 0)
    × (((card : Card) → IsGiven board place card → ⊥)
    ⊎ ((earlier : ℕ) × (earlier < place) × (rank_given board earlier ≡ pos 0)))

-- how many cards the current trick has: what the hands lack to a multiple of four
abbrev pub trick_size : ℕ → ℕ
trick_size cards = (52 - cards) % 4

-- the size of the current trick of a board
abbrev pub trick_size_of : BoardDeal → ℕ
trick_size_of board = trick_size (cards_in (words_of board.remain_cards))

-- the cards of the current trick in order; ranks after them are passed over, as DDS does
pub record IsCurrentTrick (board : BoardDeal) (cards : List Card) : Type 0 where
  pub size : length cards ≡ trick_size_of board
  pub each : (place : ℕ) (card : Card) → slice_get cards place ≡ Some card → IsGiven board place card

-- a card of the current trick is still in a hand
abbrev pub AreTrickCardsHeld : BoardDeal → Type 0
AreTrickCardsHeld board =
    (place : ℕ) × (place < trick_size_of board) × (card : Card) × IsGiven board place card
    × (seat : Seat) × HasCard board.remain_cards seat card

-- ---- the layout when the trick began
-- how many cards a seat had: one more than now, if it has played one of the cards of the current trick
abbrev pub size_with : List ℕ → ℤ → ℕ → Seat → ℕ
size_with words first played seat =
    size_of words seat
    + (if nat_lt ((seat_number seat + 4 - unsigned_abs first) % 4) played then 1 else 0)

-- the seat has played the card to the trick
abbrev pub IsPlayedBy : Seat → List Card → Seat → Card → Type 0
IsPlayedBy leader trick seat card =
    (place : ℕ) × (slice_get trick place ≡ Some card) × (seat_in_place leader place ≡ seat)

-- each seat holds its cards and the card that it has played to the trick, and no others
pub record IsLayoutBefore (hands : List (List ℕ)) (leader : Seat) (trick : List Card) (deal : Deal) : Type 0 where
  pub of_cards : AreOfCards hands
  pub holders :
      (card : Card) (seat : Seat)
      → (holder_of deal card ≡ Some seat) ↔ (HasCard hands seat card ⊎ IsPlayedBy leader trick seat card)
  pub gone : (card : Card) (one other : Seat) → IsPlayedBy leader trick one card → HasCard hands other card → ⊥
  pub layout : IsLayout deal

-- ---- the position
-- the position of a board: the layout when the trick began, and the cards of the trick, played in turn
pub record IsPositionOf (board : BoardDeal) (position : Position) : Type 0 where
  pub leader_is : pos (seat_number position.opening.leader) ≡ board.first
  pub trump_is : denomination_number position.opening.trump ≡ board.trump
  pub trick_is : IsCurrentTrick board position.history
  pub layout_is :
      IsLayoutBefore board.remain_cards position.opening.leader position.history position.opening.deal
  pub legal : IsLegalHistory position.opening position.history

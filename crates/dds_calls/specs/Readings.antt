-- Steps on the way to the position of a board.
use Rattle.std.specs.Prelude.{◌≡◌, ◌⊎◌, ◌↔◌, ℕ, ◌+◌, ◌<◌, ◌≤◌, nat_lt, if◌then◌else◌}
use Rattle.std.specs.Prelude.{pos, List, length, Some, slice_get, slice_index, Contains}
use Rattle.std.specs.Int.{bit_at}
use Rattle.cards.specs.declared.seats.Seat.{Seat}
use Rattle.cards.specs.declared.seats.Seat.TheVariants.{North}
use Rattle.cards.specs.declared.pack.Card.{Card}
use Rattle.cards.specs.Seats.{place_of, seat_number}
use Rattle.cards.specs.Deal.{Deal}
use Rattle.cards.specs.Hands.{HasBit, HaveCardsAlone, word_size}
use Rattle.play_rules.specs.History.{Opening}
use Rattle.play_rules.specs.Legal.{IsLegalHistory}
use Rattle.play_rules.specs.Position.{Position}
use Rattle.dds_calls.specs.declared.board_shapes.BoardDeal.{BoardDeal}
use Rattle.dds_calls.specs.declared.board_shapes.Ask.{Ask}
use Rattle.dds_calls.specs.declared.trick_reading.Start.{Start}
use Rattle.dds_calls.specs.declared.trick_layouts.Reading.{Reading}
use Rattle.dds_calls.specs.Denominations.{denomination_number}
use Rattle.dds_calls.specs.Hands.{AreOfCards, AreSomeCards, words_of}
use Rattle.dds_calls.specs.BoardPositions.{IsGiven, IsPlayedBy, IsPositionOf, rank_given, trick_size_of}
use Rattle.dds_calls.specs.Boards.{IsClearTo, size_before}

-- the board's leader and denomination, and no fault in the other numbers
pub record IsStart (board : BoardDeal) (ask : Ask) (start : Start) : Type 0 where
  pub leader_is : pos (seat_number start.leader) ≡ board.first
  pub trump_is : denomination_number start.trump ≡ board.trump
  pub clear : IsClearTo 8 board ask

-- the cards that are given in the first places of the current trick, in order
pub record AreGivenTo (board : BoardDeal) (places : ℕ) (cards : List Card) : Type 0 where
  pub few : length cards ≤ places
  pub each : (place : ℕ) (card : Card) → slice_get cards place ≡ Some card → IsGiven board place card
  pub no_more : (place : ℕ) → length cards ≤ place → place < places → rank_given board place ≡ pos 0

-- the size of the current trick, and no fault in the numbers of cards
pub record IsTrickSize (board : BoardDeal) (ask : Ask) (played : ℕ) : Type 0 where
  pub size : played ≡ trick_size_of board
  pub some : AreSomeCards (words_of board.remain_cards)
  pub equal : (seat : Seat) → size_before board seat ≡ size_before board North
  pub clear : IsClearTo 13 board ask

-- no bit is in two words
abbrev pub AreApart : List ℕ → Type 0
AreApart words =
    (i : ℕ) → bit_at (slice_index words 0) i + bit_at (slice_index words 1) i + bit_at (slice_index words 2) i
    + bit_at (slice_index words 3) i ≤ 1

-- the cards given for the current trick, as far as the trick has cards, and what is in the hands
pub record IsReading (board : BoardDeal) (ask : Ask) (reading : Reading) : Type 0 where
  pub leader_is : pos (seat_number reading.start.leader) ≡ board.first
  pub trump_is : denomination_number reading.start.trump ≡ board.trump
  pub of_cards : AreOfCards board.remain_cards
  pub words_are : reading.words ≡ words_of board.remain_cards
  pub size : reading.played ≡ trick_size_of board
  pub some : AreSomeCards (words_of board.remain_cards)
  pub equal : (seat : Seat) → size_before board seat ≡ size_before board North
  pub few : length reading.trick.items ≤ reading.played
  pub each : (place : ℕ) (card : Card) → slice_get reading.trick.items place ≡ Some card → IsGiven board place card
  pub no_more :
      (place : ℕ) → length reading.trick.items ≤ place → place < reading.played → rank_given board place ≡ pos 0
  pub gone :
      (card : Card) → Contains reading.trick.items card → (seat : Seat) → HasBit reading.words seat card → ⊥
  pub apart : AreApart reading.words
  pub clear : IsClearTo 15 board ask

-- each seat's word has its cards, and the card that it has played
pub record ArePutBack (words : List ℕ) (leader : Seat) (cards : List Card) (back : List ℕ) : Type 0 where
  pub four : length back ≡ 4
  pub bits :
      (card : Card) (seat : Seat)
      → HasBit back seat card ↔ (HasBit words seat card ⊎ IsPlayedBy leader cards seat card)
  pub sizes :
      (seat : Seat) → word_size back seat
      ≡ word_size words seat + (if nat_lt (place_of leader seat) (length cards) then 1 else 0)
  pub alone : HaveCardsAlone words → HaveCardsAlone back

-- the opening of a layout
abbrev pub opening_with : Deal → Start → Opening
opening_with layout start = record { deal = layout; leader = start.leader; trump = start.trump }

-- the cards were played in turn
pub record IsBegun (layout : Deal) (start : Start) (cards : List Card) (position : Position) : Type 0 where
  pub opening : position.opening ≡ opening_with layout start
  pub history : position.history ≡ cards
  pub legal : IsLegalHistory position.opening position.history

-- the position of the board, and no fault but that its values may stay unknown
pub record IsRead (board : BoardDeal) (ask : Ask) (position : Position) : Type 0 where
  pub is_position : IsPositionOf board position
  pub clear : IsClearTo 16 board ask

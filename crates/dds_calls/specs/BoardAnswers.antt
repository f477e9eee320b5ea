-- What a call on a board answers.
use Rattle.std.specs.Prelude.{◌≡◌, ◌⊎◌, ℕ, ◌≤◌, ◌<◌, ℤ, pos, List, length, Contains}
use Rattle.cards.specs.declared.seats.Seat.{Seat}
use Rattle.cards.specs.declared.pack.Card.{Card}
use Rattle.cards.specs.Deal.{Deal}
use Rattle.play_rules.specs.Legal.{CanPlay, seat_to_play}
use Rattle.play_rules.specs.Position.{Position}
use Rattle.card_values.specs.declared.values.CardValue.{CardValue}
use Rattle.card_values.specs.CardValues.{AreCardValues, cards_of}
use Rattle.best_cards.specs.BestCards.{AreBestCards}
use Rattle.dds_calls.specs.declared.board_shapes.Ask.{Ask}
use Rattle.dds_calls.specs.declared.board_shapes.BoardDeal.{BoardDeal}
use Rattle.dds_calls.specs.declared.board_shapes.FutureTricks.{FutureTricks}
use Rattle.dds_calls.specs.declared.board_faults.BoardFault.{BoardFault}
use Rattle.dds_calls.specs.declared.lines.Line.{Line}
use Rattle.dds_calls.specs.declared.rules.Rule.{Rule}
use Rattle.dds_calls.specs.BoardPositions.{IsPositionOf}
use Rattle.dds_calls.specs.Boards.{IsClearTo, IsFirstFault, board_code, cards_left}
use Rattle.dds_calls.specs.Lines.{AreLines}
use Rattle.dds_calls.specs.Rules.{IsRule, least_of}
use Rattle.dds_calls.specs.Telling.{IsWritten, at_place, blank_with}
use Rattle.dds_calls.specs.Touching.{Touch}

-- The struct has the lines that the rule gives. The rule depends on the number of cards left in the hands, and on the
-- number of groups.
pub record AreTold (ask : Ask) (left groups : ℕ) (deal : Deal) (player : Seat) (values : List CardValue)
    (told : FutureTricks) : Type 0 where
  pub rule : Rule
  pub is_rule : IsRule ask left groups values rule
  pub lines : List Line
  pub are_lines : AreLines deal player values (least_of rule) lines
  pub is_written : IsWritten ask rule lines told

-- there is one line, and its group is one card
abbrev pub HasOneLine : FutureTricks → Type 0
HasOneLine told = (told.cards ≡ pos 1) × (at_place told.equals 0 ≡ pos 0)

-- the seat to play
abbrev pub player_of : Position → Seat
player_of position = seat_to_play position.opening position.history

-- The values are those of all cards that may be played, and this is the number of their groups.
pub record AreAllGroups (position : Position) (values : List CardValue) (groups : ℕ) : Type 0 where
  pub are_values : AreCardValues position values
  pub lines : List Line
  pub are_lines : AreLines position.opening.deal (player_of position) values 0 lines
  pub count : groups ≡ length lines

-- one card is asked for, and it is not the last trick
abbrev pub IsOneAsked : BoardDeal → Ask → Type 0
IsOneAsked board ask = (ask.solutions ≡ pos 1) × (4 < cards_left board)

-- two cards that may be played don't touch, so they are in two groups
pub record HaveGroups (position : Position) : Type 0 where
  pub one : Card
  pub other : Card
  pub can_one : CanPlay position.opening position.history one
  pub can_other : CanPlay position.opening position.history other
  pub apart : Touch position.opening.deal (player_of position) one other → ⊥

-- The values are those of cards that lead to the most tricks. Their groups are whole: if a card may be played and
-- touches one of these cards, it is one of them.
pub record AreBestGroups (position : Position) (values : List CardValue) : Type 0 where
  pub are_best : AreBestCards position values
  pub whole :
      (value : CardValue) (card : Card) → Contains values value → CanPlay position.opening position.history card
      → Touch position.opening.deal (player_of position) value.card card → Contains (cards_of values) card

-- One card is asked for, and the values are those of groups that lead to the most tricks. The rule only asks whether
-- there is one group. There are more, so 2 stands for their number.
pub record AreSomeGroups (board : BoardDeal) (ask : Ask) (position : Position) (values : List CardValue) (groups : ℕ)
    : Type 0 where
  pub one_asked : IsOneAsked board ask
  pub have_groups : HaveGroups position
  pub are_best : AreBestGroups position values
  pub count : groups ≡ 2

-- The call has no fault, and the board has a position. The struct has the values of all cards that may be played in
-- it. If one card is asked for, it may have those of some groups that lead to the most tricks instead. Then a line is
-- one of these groups, which may be any of them, and its score is what the rule says. In the last trick there is one
-- line.
pub record IsToldOf (board : BoardDeal) (ask : Ask) (told : FutureTricks) : Type 0 where
  pub clear : IsClearTo 16 board ask
  pub position : Position
  pub is_position : IsPositionOf board position
  pub values : List CardValue
  pub some : 1 ≤ length values
  pub groups : ℕ
  pub are_groups : AreAllGroups position values groups ⊎ AreSomeGroups board ask position values groups
  pub are_told : AreTold ask (cards_left board) groups position.opening.deal (player_of position) values told
  pub last : cards_left board ≤ 4 → HasOneLine told

-- a call returns 1 and the values, or the code of its first fault and zeros
abbrev pub AnswersBoard : BoardDeal → Ask → FutureTricks → ℤ → Type 0
AnswersBoard board ask told code =
    ((code ≡ pos 1) × IsToldOf board ask told)
    ⊎ ((fault : BoardFault) × (code ≡ board_code fault) × IsFirstFault board ask fault × (told ≡ blank_with (pos 0)))

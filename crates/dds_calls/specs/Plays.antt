-- What a call on a play answers.
use Rattle.std.specs.Prelude.{◌≡◌, ◌⊎◌, ℕ, ◌+◌, ◌*◌, ◌-◌, ◌≤◌, ◌<◌, min, ℤ, pos, negsuc, ◌+ℤ◌}
use Rattle.std.specs.Prelude.{List, ◌++◌, length, take, replicate, Option, None, Some, slice_get}
use Rattle.cards.specs.declared.pack.Card.{Card}
use Rattle.cards.specs.Deal.{size_of}
use Rattle.cards.specs.Seats.{other_side, side_of}
use Rattle.play_rules.specs.Legal.{CanPlay, IsLegalHistory}
use Rattle.play_rules.specs.Position.{Position}
use Rattle.play_values.specs.PlayValues.{Recorded, IsPlayValue}
use Rattle.certified_plays.specs.Values.{ShownPlay, value_at}
use Rattle.dds_calls.specs.declared.board_shapes.Ask.{Ask}
use Rattle.dds_calls.specs.declared.board_shapes.BoardDeal.{BoardDeal}
use Rattle.dds_calls.specs.declared.play_shapes.PlayTrace.{PlayTrace}
use Rattle.dds_calls.specs.declared.play_shapes.SolvedPlay.{SolvedPlay}
use Rattle.dds_calls.specs.declared.play_faults.PlayFault.{PlayFault}
use Rattle.dds_calls.specs.declared.play_faults.PlayFault.TheVariants.{Board, Trace, Unknown}
use Rattle.dds_calls.specs.declared.plays.TraceRead.{TraceRead}
use Rattle.dds_calls.specs.BoardPositions.{IsNumbered}
use Rattle.dds_calls.specs.Boards.{IsFirstFault, board_code}
use Rattle.dds_calls.specs.Readings.{IsRead}
use Rattle.dds_calls.specs.Telling.{at_place}

-- a question that has no fault of its own
abbrev pub any_ask : Ask
any_ask = record { target = negsuc 0; solutions = pos 3; mode = pos 1 }

-- ---- the cards that count
-- the card's numbers stand in this place of the trace
abbrev pub IsTraced : PlayTrace → ℕ → Card → Type 0
IsTraced trace place card = IsNumbered card (at_place trace.suit place) (at_place trace.rank place)

-- the number, or 0 if it is negative
abbrev pub natural_of : ℤ → ℕ
natural_of (pos number) = number
natural_of (negsuc number) = 0

-- How many cards of the trace count. Its number counts the cards of the current trick too. Cards of the last trick
-- don't count.
abbrev pub count_told : Position → PlayTrace → ℕ
count_told position trace =
    min (natural_of trace.number) (4 * (size_of position.opening.deal - 1)) - length position.history

-- the cards of the first places of the trace, which may be played in turn
pub record AreTraced (trace : PlayTrace) (position : Position) (cards : List Card) : Type 0 where
  pub each : (place : ℕ) (card : Card) → slice_get cards place ≡ Some card → IsTraced trace place card
  pub legal : IsLegalHistory position.opening (position.history ++ cards)

-- the board's position, and the cards of the trace that count
pub record ArePlayed (board : BoardDeal) (trace : PlayTrace) (position : Position) (cards : List Card) : Type 0 where
  pub read : IsRead board any_ask position
  pub traced : AreTraced trace position cards
  pub count : length cards ≡ count_told position trace

-- ---- the faults
-- The board has a position, the first places of the trace have cards that may be played in turn, and the next place,
-- which counts, has none that may follow.
pub record IsStopped (board : BoardDeal) (trace : PlayTrace) : Type 0 where
  pub position : Position
  pub read : IsRead board any_ask position
  pub cards : List Card
  pub traced : AreTraced trace position cards
  pub counts : length cards < count_told position trace
  pub none :
      (card : Card) → IsTraced trace (length cards) card
      → CanPlay position.opening (position.history ++ cards) card → ⊥

-- the call has this fault, and none before it
abbrev pub IsPlayFault : BoardDeal → PlayTrace → PlayFault → Type 0
IsPlayFault board trace (Board fault) = IsFirstFault board any_ask fault
IsPlayFault board trace Trace = IsStopped board trace
IsPlayFault board trace Unknown = (position : Position) × (cards : List Card) × ArePlayed board trace position cards

abbrev pub play_code : PlayFault → ℤ
play_code (Board fault) = board_code fault
play_code Trace = negsuc 97
play_code Unknown = negsuc 0

-- ---- the answer
-- the trick's cards were played, and declarer's side doesn't lead to it
pub record IsBegunWith (position : Position) (play : Recorded) : Type 0 where
  pub position_is : play.position ≡ position
  pub declarers_are : play.declarers ≡ other_side (side_of position.opening.leader)

-- the play that the numbers stand for
pub record IsTraceRead (board : BoardDeal) (trace : PlayTrace) (read : TraceRead) : Type 0 where
  pub position : Position
  pub cards : List Card
  pub played : ArePlayed board trace position cards
  pub opening_is : read.play.position.opening ≡ position.opening
  pub history_is : read.play.position.history ≡ position.history ++ cards
  pub declarers_are : read.play.declarers ≡ other_side (side_of position.opening.leader)
  pub given_is : read.given ≡ length position.history

-- the numbers are the known values after this many cards and after each later one, and then there are zeros
pub record HasValues (values : ShownPlay) (given : ℕ) (told : SolvedPlay) : Type 0 where
  pub number_is : told.number +ℤ pos given ≡ pos (length values.play.position.history + 1)
  pub each :
      (count : ℕ) → given ≤ count → count ≤ length values.play.position.history
      → (tricks : ℕ) × (value_at values count ≡ Some tricks) × (at_place told.tricks (count - given) ≡ pos tricks)
  pub rest :
      (place : ℕ) → length values.play.position.history < place + given → at_place told.tricks place ≡ pos 0

-- one of them isn't known
abbrev pub HaveGap : ShownPlay → ℕ → Type 0
HaveGap values given =
    (count : ℕ) × (given ≤ count) × (count ≤ length values.play.position.history) × (value_at values count ≡ None)

abbrev pub AreWritten : ShownPlay → ℕ → Option SolvedPlay → Type 0
AreWritten values given (Some told) = HasValues values given told
AreWritten values given None = HaveGap values given

-- The call has no fault. Before the first card of the trace, and after each card that counts, the number is the tricks
-- that declarer's side takes in all from the current trick on. Declarer's side doesn't lead to that trick.
pub record IsPlayToldOf (board : BoardDeal) (trace : PlayTrace) (told : SolvedPlay) : Type 0 where
  pub position : Position
  pub cards : List Card
  pub played : ArePlayed board trace position cards
  pub number_is : told.number ≡ pos (length cards + 1)
  pub each :
      (count : ℕ) → count ≤ length cards → (tricks : ℕ) × (at_place told.tricks count ≡ pos tricks)
      × IsPlayValue position.opening (other_side (side_of position.opening.leader))
      (position.history ++ take count cards) tricks
  pub rest : (place : ℕ) → length cards < place → at_place told.tricks place ≡ pos 0

-- a struct without numbers
abbrev pub blank_play : SolvedPlay
blank_play = record { number = pos 0; tricks = replicate 53 (pos 0) }

-- a call returns 1 and the values, or the code of its first fault and zeros
abbrev pub AnswersPlay : BoardDeal → PlayTrace → SolvedPlay → ℤ → Type 0
AnswersPlay board trace told code =
    ((code ≡ pos 1) × IsPlayToldOf board trace told)
    ⊎ ((fault : PlayFault) × (code ≡ play_code fault) × IsPlayFault board trace fault × (told ≡ blank_play))

-- The faults of a call on a board, in their order.
use Rattle.std.specs.Prelude.{◌≡◌, ◌≢◌, ◌⊎◌, ℕ, ◌+◌, ◌/◌, ◌<◌, ℤ, pos, negsuc, ◌<ℤ◌}
use Rattle.cards.specs.declared.seats.Seat.{Seat}
use Rattle.cards.specs.declared.seats.Seat.TheVariants.{North}
use Rattle.play_rules.specs.Position.{Position}
use Rattle.dds_calls.specs.declared.board_shapes.BoardDeal.{BoardDeal}
use Rattle.dds_calls.specs.declared.board_shapes.Ask.{Ask}
use Rattle.dds_calls.specs.declared.board_faults.BoardFault.{BoardFault}
use Rattle.dds_calls.specs.declared.board_faults.BoardFault.TheVariants.{TargetTooLow, TargetTooHigh}
use Rattle.dds_calls.specs.declared.board_faults.BoardFault.TheVariants.{SolutionsTooFew, SolutionsTooMany, ModeTooLow}
use Rattle.dds_calls.specs.declared.board_faults.BoardFault.TheVariants.{ModeTooHigh, NoDenomination, NoSeat}
use Rattle.dds_calls.specs.declared.board_faults.BoardFault.TheVariants.{StrayNumber}
use Rattle.dds_calls.specs.declared.board_faults.BoardFault.TheVariants.{NoCards, TooManyCards, TargetTooFar, Unequal}
use Rattle.dds_calls.specs.declared.board_faults.BoardFault.TheVariants.{PlayedAndHeld, CardTwice, NoPosition, Unknown}
use Rattle.dds_calls.specs.Denominations.{IsNoDenomination}
use Rattle.dds_calls.specs.Seats.{IsNoSeat}
use Rattle.dds_calls.specs.Hands.{HaveCardTwice, HaveStrayBit, cards_in, words_of}
use Rattle.dds_calls.specs.BoardPositions.{AreTrickCardsHeld, HasStrayTrick, IsPositionOf, size_with, trick_size}

-- how many cards are in the hands
abbrev pub cards_left : BoardDeal → ℕ
cards_left board = cards_in (words_of board.remain_cards)

-- how many tricks are left, the current one among them
abbrev pub tricks_left : BoardDeal → ℕ
tricks_left board = (cards_left board + 3) / 4

-- how many cards the seat had when the trick began
abbrev pub size_before : BoardDeal → Seat → ℕ
size_before board seat = size_with (words_of board.remain_cards) board.first (trick_size (cards_left board)) seat

-- the call has the fault
abbrev pub HasFault : BoardDeal → Ask → BoardFault → Type 0
HasFault board ask TargetTooLow = ask.target <ℤ negsuc 0
HasFault board ask TargetTooHigh = pos 13 <ℤ ask.target
HasFault board ask SolutionsTooFew = ask.solutions <ℤ pos 1
HasFault board ask SolutionsTooMany = pos 3 <ℤ ask.solutions
HasFault board ask ModeTooLow = ask.mode <ℤ pos 0
HasFault board ask ModeTooHigh = pos 2 <ℤ ask.mode
HasFault board ask NoDenomination = IsNoDenomination board.trump
HasFault board ask NoSeat = IsNoSeat board.first
HasFault board ask StrayNumber = HasStrayTrick board ⊎ HaveStrayBit board.remain_cards
HasFault board ask NoCards = cards_left board ≡ 0
HasFault board ask TooManyCards = 52 < cards_left board
HasFault board ask TargetTooFar = pos (tricks_left board) <ℤ ask.target
HasFault board ask Unequal = (seat : Seat) × (size_before board seat ≢ size_before board North)
HasFault board ask PlayedAndHeld = AreTrickCardsHeld board
HasFault board ask CardTwice = HaveCardTwice board.remain_cards
HasFault board ask NoPosition = (position : Position) → IsPositionOf board position → ⊥
HasFault board ask Unknown = (position : Position) × IsPositionOf board position

-- the faults in the order in which they are looked for
abbrev pub fault_number : BoardFault → ℕ
fault_number TargetTooLow = 0
fault_number TargetTooHigh = 1
fault_number SolutionsTooFew = 2
fault_number SolutionsTooMany = 3
fault_number ModeTooLow = 4
fault_number ModeTooHigh = 5
fault_number NoDenomination = 6
fault_number NoSeat = 7
fault_number StrayNumber = 8
fault_number NoCards = 9
fault_number TooManyCards = 10
fault_number TargetTooFar = 11
fault_number Unequal = 12
fault_number PlayedAndHeld = 13
fault_number CardTwice = 14
fault_number NoPosition = 15
fault_number Unknown = 16

-- DDS's codes
abbrev pub board_code : BoardFault → ℤ
board_code TargetTooLow = negsuc 4
board_code TargetTooHigh = negsuc 6
board_code SolutionsTooFew = negsuc 7
board_code SolutionsTooMany = negsuc 8
board_code ModeTooLow = negsuc 15
board_code ModeTooHigh = negsuc 16
board_code NoDenomination = negsuc 17
board_code NoSeat = negsuc 18
board_code StrayNumber = negsuc 11
board_code NoCards = negsuc 1
board_code TooManyCards = negsuc 9
board_code TargetTooFar = negsuc 2
board_code Unequal = negsuc 13
board_code PlayedAndHeld = negsuc 12
board_code CardTwice = negsuc 3
board_code NoPosition = negsuc 11
board_code Unknown = negsuc 0

-- the call has none of the first faults in this order
abbrev pub IsClearTo : ℕ → BoardDeal → Ask → Type 0
IsClearTo number board ask = (fault : BoardFault) → fault_number fault < number → HasFault board ask fault → ⊥

-- the call has the fault, and none before it
abbrev pub IsFirstFault : BoardDeal → Ask → BoardFault → Type 0
IsFirstFault board ask fault = HasFault board ask fault × IsClearTo (fault_number fault) board ask

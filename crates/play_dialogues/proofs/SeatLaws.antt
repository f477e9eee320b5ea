-- Leaders, turns and tricks.
use Rattle.std.proofs.Common.{◌≡◌, ◌-◌, ◌/◌, ◌≤◌, ◌<◌, List, length, false, Some, sym, arith}
use denote.Enum.Bare.{sameb}
use Rattle.cards.specs.contracts.seats.Side.{the_type}
use Rattle.cards.specs.declared.suits.Trump.{Trump}
use Rattle.cards.specs.declared.seats.Seat.{Seat}
use Rattle.cards.specs.declared.seats.Side.{Side}
use Rattle.cards.specs.declared.seats.Side.TheVariants.{NorthSouth, EastWest}
use Rattle.cards.specs.declared.pack.Card.{Card}
use Rattle.cards.specs.Seats.{seat_in_place}
use Rattle.cards.specs.Deal.{size_of}
use Rattle.play_rules.specs.History.{trick_of, leader_after, tricks_of}
use Rattle.play_rules.specs.Legal.{IsUnfinished}
use Rattle.play_rules.specs.Position.{Position, IsReached, AreLegalCards, turn_of}
use Rattle.play_rules.proofs.HistoryLaws.{length-trick_of}
use Rattle.strategies.proofs.Counting.{tricks-add_up, some_card_to_play}
use Rattle.strategies.proofs.Deciding.{some_legal_card}
use Rattle.strategies.proofs.SearchProofs.{turn-unfinished}

-- the seat to play sits as many places from the leader as the trick has cards
pub turn_of_trick : (position : Position) (seat : Seat) → turn_of position ≡ Some seat →
    seat ≡ seat_in_place (leader_after position.opening.trump position.opening.leader position.history) (length (trick_of position.history))
turn_of_trick position seat turn = sym (turn-unfinished position seat turn).1

-- a trick in progress has three cards at the most
pub trick_is_short : (history : List Card) → length (trick_of history) ≤ 3
trick_is_short history = omega (arith, length-trick_of history)

-- what one side has not won the other has
pub other_tricks : (trump : Trump) (leader : Seat) (history : List Card) (side own : Side) → false ≡ sameb the_type side own →
    length history / 4 - tricks_of own trump leader history ≡ tricks_of side trump leader history
other_tricks trump leader history NorthSouth NorthSouth differ = cc
other_tricks trump leader history NorthSouth EastWest differ =
    omega (arith, tricks-add_up trump leader history, length-trick_of history)
other_tricks trump leader history EastWest NorthSouth differ =
    omega (arith, tricks-add_up trump leader history, length-trick_of history)
other_tricks trump leader history EastWest EastWest differ = cc

-- they are no more than all
pub tricks_within : (trump : Trump) (leader : Seat) (history : List Card) (own : Side) →
    tricks_of own trump leader history ≤ length history / 4
tricks_within trump leader history NorthSouth =
    omega (arith, tricks-add_up trump leader history, length-trick_of history)
tricks_within trump leader history EastWest =
    omega (arith, tricks-add_up trump leader history, length-trick_of history)

-- while a card is still to be played some card may be
pub some_listed : (position : Position) (cards : List Card) → IsReached position →
    IsUnfinished position.opening position.history → AreLegalCards position cards → 0 < length cards
some_listed position cards reached more legal =
    let opening = position.opening in
    let held = some_card_to_play opening.trump opening.deal opening.leader position.history (size_of opening.deal) reached.layout.whole_pack reached.layout.equal_hands reached.legal more in
    let some = some_legal_card opening position.history held.0 held.1 in
    let listed = legal.all some.0 some.1 in
    omega (arith, listed.1)

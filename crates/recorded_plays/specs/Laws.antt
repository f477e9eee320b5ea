-- Laws of the definitions.
use Rattle.std.specs.Prelude.{◌≡◌, ℕ, ◌≤◌, List, length}
use Rattle.cards.specs.declared.seats.Seat.{Seat}
use Rattle.cards.specs.declared.pack.Card.{Card}
use Rattle.play_rules.specs.Legal.{IsLegalHistory, cards_in_play}
use Rattle.recorded_plays.specs.declared.plays.RecordedPlay.{RecordedPlay}
use Rattle.recorded_plays.specs.Follow.{opening_of, IsRead}
use Rattle.recorded_plays.specs.Written.{written}

-- a section gives a deal, a declarer and a denomination one play, with one end
abbrev pub OneReading : Type 0
OneReading =
    (first : Seat) (text : List ℕ) (one other : RecordedPlay) →
    IsRead first text one → IsRead first text other →
    opening_of one ≡ opening_of other →
    (one.cards.items ≡ other.cards.items) × (one.end ≡ other.end)

-- legal cards that are written as a section are read back, whatever seat has the first column
abbrev pub WrittenIsRead : Type 0
WrittenIsRead =
    (first : Seat) (cards : List Card) (play : RecordedPlay) →
    IsLegalHistory (opening_of play) cards → length cards ≤ cards_in_play (opening_of play) →
    IsRead first (written first (opening_of play) cards) play →
    play.cards.items ≡ cards

-- A play as a Play section gives it: a row for each trick, with a column for each seat, clockwise from the seat that
-- the Play tag names, whoever led (PBN 2.1, section 3.5).
use Rattle.std.specs.Prelude.{◌≡◌, ◌≢◌, ℕ, ◌+◌, ◌*◌, ◌/◌, Bool, true, false, List, length, take, slice_get, Option}
use Rattle.std.specs.Prelude.{None, Some}
use Rattle.cards.specs.declared.seats.Seat.{Seat}
use Rattle.cards.specs.declared.pack.Card.{Card}
use Rattle.cards.specs.Seats.{next_of, place_of}
use Rattle.play_rules.specs.History.{Opening, suit_led}
use Rattle.play_rules.specs.Legal.{StillHolds, CanFollow, IsLegalHistory, IsUnfinished, cards_in_play, seat_to_play}
use Rattle.recorded_plays.specs.declared.plays.Slot.{Slot}
use Rattle.recorded_plays.specs.declared.plays.Slot.TheVariants.{Played, Unknown, Unread}
use Rattle.recorded_plays.specs.declared.plays.IllegalReason.{IllegalReason}
use Rattle.recorded_plays.specs.declared.plays.IllegalReason.TheVariants.{NotHeld, OutOfTurn, HoldsSuit}
use Rattle.recorded_plays.specs.declared.plays.IllegalCard.{IllegalCard}
use Rattle.recorded_plays.specs.declared.plays.PlayEnd.{PlayEnd}
use Rattle.recorded_plays.specs.declared.plays.PlayEnd.TheVariants as ends
use Rattle.recorded_plays.specs.declared.plays.RecordedPlay.{RecordedPlay}
use Rattle.recorded_plays.specs.Slots.{slots_of, is_irregular}

-- the seat whose turn it is has this place in a section that begins with the seat `first`
abbrev pub place_to_play : Opening → Seat → List Card → ℕ
place_to_play opening first history =
    4 * (length history / 4) + place_of first (seat_to_play opening history)

-- what the section says of the next card
abbrev pub slot_to_play : Opening → Seat → List Slot → List Card → Option Slot
slot_to_play opening first slots history = slice_get slots (place_to_play opening first history)

-- each card is the one that the section gives to the seat whose turn it was
abbrev pub AreGiven : Opening → Seat → List Slot → List Card → Type 0
AreGiven opening first slots cards =
    (count : ℕ) (card : Card) → slice_get cards count ≡ Some card →
    slot_to_play opening first slots (take count cards) ≡ Some (Played card)

-- ---- the end of the cards
-- why the card may not be played
abbrev pub IsRefused : Opening → List Card → Card → IllegalReason → Type 0
IsRefused opening history card NotHeld = (seat : Seat) → StillHolds opening.deal history seat card → ⊥
IsRefused opening history card (OutOfTurn seat) =
    StillHolds opening.deal history seat card × (seat_to_play opening history ≢ seat)
IsRefused opening history card (HoldsSuit suit) =
    StillHolds opening.deal history (seat_to_play opening history) card ×
    (suit_led history ≡ Some suit) ×
    CanFollow opening history suit ×
    (card.suit ≢ suit)

-- the card that may not be played after the history, with its trick and the seat whose turn it is
pub record IsIllegal (opening : Opening) (history : List Card) (illegal : IllegalCard) : Type 0 where
  pub trick : illegal.trick ≡ length history / 4 + 1
  pub seat : illegal.seat ≡ seat_to_play opening history
  pub reason : IsRefused opening history illegal.card illegal.reason

-- why no card follows the history, by what the section says of the next card, and whether it ends irregularly
abbrev pub IsEnd : Opening → List Card → Option Slot → Bool → PlayEnd → Type 0
IsEnd opening history slot irregular ends.Whole = length history ≡ cards_in_play opening
IsEnd opening history slot irregular ends.Early =
    IsUnfinished opening history × (slot ≡ None) × (irregular ≡ false)
IsEnd opening history slot irregular ends.Irregular =
    IsUnfinished opening history × (slot ≡ None) × (irregular ≡ true)
IsEnd opening history slot irregular ends.Unknown = IsUnfinished opening history × (slot ≡ Some Unknown)
IsEnd opening history slot irregular ends.Unread = IsUnfinished opening history × (slot ≡ Some Unread)
IsEnd opening history slot irregular (ends.Illegal illegal) =
    IsUnfinished opening history × (slot ≡ Some (Played illegal.card)) × IsIllegal opening history illegal

-- the opening of the play: declarer's left-hand opponent leads (Law 41A)
abbrev pub opening_of : RecordedPlay → Opening
opening_of play = record { deal = play.deal; leader = next_of play.declarer; trump = play.trump }

-- the play that a section gives: its cards are legal, and they go as far as such cards go
pub record IsRead (first : Seat) (text : List ℕ) (play : RecordedPlay) : Type 0 where
  pub legal : IsLegalHistory (opening_of play) play.cards.items
  pub given : AreGiven (opening_of play) first (slots_of text) play.cards.items
  pub ends :
      IsEnd (opening_of play) play.cards.items
      (slot_to_play (opening_of play) first (slots_of text) play.cards.items)
      (is_irregular text) play.end

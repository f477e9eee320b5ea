-- Four suits as they are given and told, when they are a pattern or a rest, and which refusal they get.
use Rattle.std.specs.Prelude.{◌≡◌, ◌≢◌, ℕ, ◌<◌, ◌≤◌, List, [], ◌∷◌, length, map, Result, Ok, Err, ◌⊎◌}
use Rattle.cards.specs.declared.suits.Suit.{Suit}
use Rattle.cards.specs.declared.seats.Seat.{Seat}
use Rattle.cards.specs.declared.seats.Seat.TheVariants.{North}
use Rattle.patterns.specs.Shapes.{SuitShape, Shape, suit_of, len_of, tops_of, suit_size, hand_size, IsShape}
use Rattle.patterns.specs.declared.suit_parts.SuitPart.{SuitPart}
use Rattle.patterns.specs.declared.faults.PatternFault.{PatternFault}
use Rattle.patterns.specs.declared.faults.PatternFault.TheVariants.{Lengths, Cards, Owners, Words}

-- a part, as one suit
abbrev pub suit_shape : SuitPart → SuitShape
suit_shape part = record { lens = part.lens; owners = part.owners.items }

-- four suits, spades first
abbrev pub shape_of : List SuitShape → Shape
shape_of (spades ∷ hearts ∷ diamonds ∷ clubs ∷ _) =
    record { spades = spades; hearts = hearts; diamonds = diamonds; clubs = clubs }
shape_of _ = record { spades = no_suit; hearts = no_suit; diamonds = no_suit; clubs = no_suit }
  where
    no_suit : SuitShape
    no_suit = record { lens = []; owners = [] }

-- four parts, spades first, as four suits
abbrev pub shape_of_parts : List SuitPart → Shape
shape_of_parts parts = shape_of (map suit_shape parts)

-- each suit tells four lengths
abbrev pub HasFourSeats : Shape → Type 0
HasFourSeats shape = (suit : Suit) → length (suit_of shape suit).lens ≡ 4

-- some suit has over 13 cards
abbrev pub HasLongSuit : Shape → Type 0
HasLongSuit shape = (suit : Suit) × (13 < suit_size (suit_of shape suit))

-- no suit has over 13 cards
abbrev pub SuitsFit : Shape → Type 0
SuitsFit shape = (suit : Suit) → suit_size (suit_of shape suit) ≤ 13

-- the hands are of unequal size, or of fewer or more cards than these
abbrev pub HasWrongHands : ℕ → ℕ → Shape → Type 0
HasWrongHands fewest most shape =
    ((seat : Seat) × (hand_size shape seat ≢ hand_size shape North)) ⊎
    ((hand_size shape North < fewest) ⊎ (most < hand_size shape North))

-- the hands are of one size within these bounds
pub record HandsFit (fewest most : ℕ) (shape : Shape) : Type 0 where
  pub equal : (seat : Seat) → hand_size shape seat ≡ hand_size shape North
  pub some_cards : fewest ≤ hand_size shape North
  pub not_over : hand_size shape North ≤ most

-- no seat is an owner more often than it has cards of the suit
abbrev pub HasItsOwners : SuitShape → Type 0
HasItsOwners suit = (seat : Seat) → tops_of suit seat ≤ len_of suit seat

-- some seat is an owner more often than that
abbrev pub HasExcessOwner : SuitShape → Type 0
HasExcessOwner suit = (seat : Seat) × (len_of suit seat < tops_of suit seat)

-- no seat is an owner in a suit more often than it has cards there
abbrev pub OwnersFit : Shape → Type 0
OwnersFit shape = (suit : Suit) → HasItsOwners (suit_of shape suit)

-- some seat is an owner in some suit more often than that
abbrev pub HasWrongOwner : Shape → Type 0
HasWrongOwner shape = (suit : Suit) × HasExcessOwner (suit_of shape suit)

-- when four suits get each refusal: the first fault that they have
abbrev pub IsFault : ℕ → ℕ → Shape → PatternFault → Type 0
IsFault fewest most shape Lengths = HasLongSuit shape
IsFault fewest most shape Cards = SuitsFit shape × HasWrongHands fewest most shape
IsFault fewest most shape Owners = SuitsFit shape × HandsFit fewest most shape × HasWrongOwner shape
-- a fault of words alone (Words.antt)
IsFault fewest most shape Words = ⊥

-- the answer for four parts
abbrev pub MeetsParts : ℕ → ℕ → Shape → Result Shape PatternFault → Type 0
MeetsParts fewest most parts (Ok shape) = (shape ≡ parts) × IsShape fewest most parts
MeetsParts fewest most parts (Err fault) = IsFault fewest most parts fault

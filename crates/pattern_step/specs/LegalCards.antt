-- The legal cards of a seat as a list, in their order.
use Rattle.std.specs.Prelude.{List, [], ◌∷◌, ◌++◌, map, filter, Option, None}
use Rattle.std.specs.Prelude.{Some, Bool, nat_lt, ◌==◌, if◌then◌else◌, slice_get}
use Rattle.std.specs.List.{range_with_len}
use Rattle.cards.specs.declared.suits.Suit.{Suit}
use Rattle.cards.specs.declared.suits.Suit.TheVariants.{Spades, Hearts, Diamonds, Clubs}
use Rattle.cards.specs.declared.seats.Seat.{Seat}
use Rattle.cards.specs.Deal.{is_held_by}
use Rattle.patterns.specs.Shapes.{Shape, suit_of, len_of, tops_of}
use Rattle.pattern_step.specs.declared.pat_cards.PatCard.{PatCard}
use Rattle.pattern_step.specs.declared.pat_cards.PatCard.TheVariants.{Top, Low}

-- whether the seat has the card
abbrev pub has_card : Shape → Seat → PatCard → Bool
has_card shape seat (Top suit place) = is_held_by seat (slice_get (suit_of shape suit).owners place)
has_card shape seat (Low suit) = nat_lt (tops_of (suit_of shape suit) seat) (len_of (suit_of shape suit) seat)

-- the tops of a suit by their places, of which there are at most thirteen
abbrev pub tops_of_suit : Suit → List PatCard
tops_of_suit suit = map (Top suit) (range_with_len 0 13)

-- the pattern cards of a suit, in their order: the tops, and then the low card
abbrev pub cards_of_suit : Suit → List PatCard
cards_of_suit suit = tops_of_suit suit ++ Low suit ∷ []

-- the seat's cards of a suit, in their order
unfoldable pub cards_in : Shape → Seat → Suit → List PatCard
cards_in shape seat suit = filter (has_card shape seat) (cards_of_suit suit)

-- all cards of the seat, by suit
abbrev pub cards_held : Shape → Seat → List PatCard
cards_held shape seat =
    cards_in shape seat Spades ++ cards_in shape seat Hearts
    ++ cards_in shape seat Diamonds ++ cards_in shape seat Clubs

-- the seat's legal cards, in their order: those of the suit led if its length there isn't 0, else all
abbrev pub legal_cards : Shape → Seat → Option Suit → List PatCard
legal_cards shape seat None = cards_held shape seat
legal_cards shape seat (Some led) =
    if len_of (suit_of shape led) seat == 0 then cards_held shape seat else cards_in shape seat led

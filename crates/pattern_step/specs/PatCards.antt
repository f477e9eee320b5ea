-- The cards of a pattern: which of them a seat has, and which it may play.
use Rattle.std.specs.Prelude.{◌≡◌, ℕ, ◌<◌, ⊤, Option, None, Some, Bool, false, ◌&&◌, ◌==◌, slice_get}
use Rattle.cards.specs.declared.suits.Suit.{Suit}
use Rattle.cards.specs.declared.seats.Seat.{Seat}
use Rattle.cards.specs.Pack.{suit_number}
use Rattle.patterns.specs.Shapes.{Shape, suit_of, len_of, tops_of}
use Rattle.pattern_step.specs.declared.pat_cards.PatCard.{PatCard}
use Rattle.pattern_step.specs.declared.pat_cards.PatCard.TheVariants.{Top, Low}

-- the suit of a pattern card
abbrev pub suit_of_card : PatCard → Suit
suit_of_card (Top suit place) = suit
suit_of_card (Low suit) = suit

-- whether a pattern card is of the suit
abbrev pub is_of_suit : Suit → PatCard → Bool
is_of_suit suit card = suit_number (suit_of_card card) == suit_number suit

-- whether a pattern card is the top in this place of the suit
abbrev pub is_top : Suit → ℕ → PatCard → Bool
is_top suit place (Top of other) = (suit_number of == suit_number suit) && (other == place)
is_top suit place (Low of) = false

-- A seat has the Top in this place where it is the owner in that place, and the Low where its length in the suit
-- exceeds its tops there.
abbrev pub HasCard : Shape → Seat → PatCard → Type 0
HasCard shape seat (Top suit place) = slice_get (suit_of shape suit).owners place ≡ Some seat
HasCard shape seat (Low suit) = tops_of (suit_of shape suit) seat < len_of (suit_of shape suit) seat

-- a seat that has cards of the suit led plays that suit (Law 44C)
abbrev pub FollowsSuit : Shape → Seat → Option Suit → PatCard → Type 0
FollowsSuit shape seat None card = ⊤
FollowsSuit shape seat (Some led) card = 0 < len_of (suit_of shape led) seat → suit_of_card card ≡ led

-- the seat may play the card, where this suit was led, or where it leads
pub record IsLegal (shape : Shape) (seat : Seat) (led : Option Suit) (card : PatCard) : Type 0 where
  pub has : HasCard shape seat card
  pub follows : FollowsSuit shape seat led card

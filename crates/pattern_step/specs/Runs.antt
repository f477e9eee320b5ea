-- Cards of one seat that are as good as each other in a trick: tops that follow one another, all the seat's.
use Rattle.std.specs.Prelude.{◌≡◌, ℕ, ◌<◌, ◌≤◌, ◌⊎◌, List, Some, slice_get}
use Rattle.cards.specs.declared.suits.Suit.{Suit}
use Rattle.cards.specs.declared.seats.Seat.{Seat}
use Rattle.cards.specs.Seats.{seat_in_place}
use Rattle.patterns.specs.Shapes.{Shape, suit_of}
use Rattle.pattern_step.specs.declared.pat_cards.PatCard.{PatCard}
use Rattle.pattern_step.specs.declared.pat_cards.PatCard.TheVariants.{Top}
use Rattle.pattern_step.specs.Tricks.{played_in_place}

-- The card is a top below another of its suit, in a run of the seat: it owns both, and each top between.
pub record IsLowerInRun (shape : Shape) (seat : Seat) (card higher : PatCard) : Type 0 where
  pub suit : Suit
  pub first : ℕ
  pub last : ℕ
  pub is_last : card ≡ Top suit last
  pub is_first : higher ≡ Top suit first
  pub below : first < last
  pub owned :
      (place : ℕ) → first ≤ place → place ≤ last → slice_get (suit_of shape suit).owners place ≡ Some seat

-- In this place of a trick the other list has the same card, or a higher one in a run of the seat that plays there.
abbrev pub IsAlikeIn : Shape → Seat → List PatCard → List PatCard → ℕ → Type 0
IsAlikeIn shape leader cards higher place =
    (played_in_place cards place ≡ played_in_place higher place)
    ⊎ IsLowerInRun shape (seat_in_place leader place) (played_in_place cards place) (played_in_place higher place)

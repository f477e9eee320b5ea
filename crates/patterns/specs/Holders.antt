-- Which layouts a pattern stands for.
use Rattle.std.specs.Prelude.{◌≡◌, ℕ, List, [], ◌∷◌, take, count_by, slice_index}
use Rattle.std.specs.List.{filter_map}
use Rattle.cards.specs.declared.suits.Suit.{Suit}
use Rattle.cards.specs.declared.suits.Suit.TheVariants.{Spades, Hearts, Diamonds, Clubs}
use Rattle.cards.specs.declared.pack.Rank.{Rank}
use Rattle.cards.specs.declared.pack.Rank.TheVariants.{Two, Three, Four, Five, Six, Seven}
use Rattle.cards.specs.declared.pack.Rank.TheVariants.{Eight, Nine, Ten, Jack, Queen, King, Ace}
use Rattle.cards.specs.declared.seats.Seat.{Seat}
use Rattle.cards.specs.declared.seats.Seat.TheVariants.{North, East, South, West}
use Rattle.cards.specs.Deal.{Deal, holder_of}
use Rattle.cards.specs.Pack.{card_of}
use Rattle.cards.specs.Seats.{is_same_seat}
use Rattle.patterns.specs.Shapes.{SuitShape, Shape, suit_of, len_of, BeginsWith}

-- the ranks, the ace first
abbrev pub falling_ranks : List Rank
falling_ranks = Ace ∷ King ∷ Queen ∷ Jack ∷ Ten ∷ Nine ∷ Eight ∷ Seven ∷ Six ∷ Five ∷ Four ∷ Three ∷ Two ∷ []

-- the seats that hold the suit's cards among all four hands, that of the highest card first
unfoldable pub holders_of : Deal → Suit → List Seat
holders_of deal suit = filter_map (λ rank. holder_of deal (card_of suit rank)) falling_ranks

-- how many of these cards the seat holds
abbrev pub count_in : List Seat → Seat → ℕ
count_in holders seat = count_by (is_same_seat seat) holders

-- one suit of a layout matches one of a pattern: each seat holds as many of its cards as the pattern says, and the
-- holders of the highest are the owners, in their order
pub record MatchesSuit (suit : SuitShape) (holders : List Seat) : Type 0 where
  pub lens : (seat : Seat) → len_of suit seat ≡ count_in holders seat
  pub owners : BeginsWith holders suit.owners

-- A layout matches a pattern: each seat's length in each suit is the pattern's, and the i-th highest card of the suit
-- among all four hands is held by the i-th owner, for each owner listed.
abbrev pub Matches : Shape → Deal → Type 0
Matches shape deal = (suit : Suit) → MatchesSuit (suit_of shape suit) (holders_of deal suit)

-- how many of these cards the four seats hold
abbrev pub counts_of : List Seat → List ℕ
counts_of holders =
    count_in holders North ∷ count_in holders East ∷ count_in holders South ∷ count_in holders West ∷ []

-- one suit of a layout: all lengths, and the owners of as many of the highest cards as there are, up to the depth
abbrev pub suit_of_layout : Deal → Suit → ℕ → SuitShape
suit_of_layout deal suit depth =
    record { lens = counts_of (holders_of deal suit); owners = take depth (holders_of deal suit) }

-- the four suits of a layout, to four depths, that of spades first
abbrev pub shape_of_layout : Deal → List ℕ → Shape
shape_of_layout deal depths = record {
  spades = suit_of_layout deal Spades (slice_index depths 0);
  hearts = suit_of_layout deal Hearts (slice_index depths 1);
  diamonds = suit_of_layout deal Diamonds (slice_index depths 2);
  clubs = suit_of_layout deal Clubs (slice_index depths 3);
}

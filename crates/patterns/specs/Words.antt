-- One suit as a word of 64 bits: bits 0 to 3 are the length of North, 4 to 7 of East, 8 to 11 of South, 12 to 15 of
-- West; bits 16 to 19 are the number of owners; owner i, from 0, stands in bits 20 + 2 i and 21 + 2 i, North being 0,
-- East 1, South 2 and West 3. All other bits are 0.
use Rattle.std.specs.Prelude.{◌≡◌, ℕ, zero, suc, ◌+◌, ◌*◌, ◌/◌, ◌%◌, ◌^◌, ◌<◌, ◌≤◌, ◌==◌, ◌⊎◌}
use Rattle.std.specs.Prelude.{List, [], ◌∷◌, length, slice_index, Result, Ok, Err, if◌then◌else◌}
use Rattle.cards.specs.declared.suits.Suit.{Suit}
use Rattle.cards.specs.declared.seats.Seat.{Seat}
use Rattle.cards.specs.declared.seats.Seat.TheVariants.{North, East, South, West}
use Rattle.cards.specs.Seats.{seat_number, is_same_seat}
use Rattle.cards.specs.Pack.{suit_number}
use Rattle.patterns.specs.Shapes.{SuitShape, Shape, suit_of, len_of, IsShape}
use Rattle.patterns.specs.Parts.{IsFault}
use Rattle.patterns.specs.declared.faults.PatternFault.{PatternFault}
use Rattle.patterns.specs.declared.faults.PatternFault.TheVariants.{Words}

-- the seat with this number
abbrev pub seat_at : ℕ → Seat
seat_at n = if n == 0 then North else (if n == 1 then East else (if n == 2 then South else West))

-- the first so many owners of those that stand two bits each, the first lowest
abbrev pub owners_in : ℕ → ℕ → List Seat
owners_in zero bits = []
owners_in (suc count) bits = seat_at (bits % 4) ∷ owners_in count (bits / 4)

-- two bits for each owner, the first lowest
abbrev pub owner_bits : List Seat → ℕ
owner_bits [] = 0
owner_bits (owner ∷ owners) = seat_number owner + 4 * owner_bits owners

-- the places in which the seat is the owner: place i has bit 2 i, and all other bits are 0
abbrev pub places_of : Seat → List Seat → ℕ
places_of seat [] = 0
places_of seat (owner ∷ owners) = (if is_same_seat seat owner then 1 else 0) + 4 * places_of seat owners

-- how many owners a word has
abbrev pub owner_count : ℕ → ℕ
owner_count word = word / 2 ^ 16 % 2 ^ 4

-- the suit that a word tells
abbrev pub suit_in : ℕ → SuitShape
suit_in word = record {
  lens = word % 2 ^ 4 ∷ word / 2 ^ 4 % 2 ^ 4 ∷ word / 2 ^ 8 % 2 ^ 4 ∷ word / 2 ^ 12 % 2 ^ 4 ∷ [];
  owners = owners_in (owner_count word) (word / 2 ^ 20);
}

-- the word of a suit
abbrev pub word_of : SuitShape → ℕ
word_of suit =
    len_of suit North + 2 ^ 4 * len_of suit East + 2 ^ 8 * len_of suit South + 2 ^ 12 * len_of suit West
    + 2 ^ 16 * length suit.owners + 2 ^ 20 * owner_bits suit.owners

-- A suit has a word: four lengths below 16, and at most 13 owners.
pub record HasWord (suit : SuitShape) : Type 0 where
  pub four : length suit.lens ≡ 4
  pub lens : (seat : Seat) → len_of suit seat < 16
  pub within : length suit.owners ≤ 13

-- each of four suits has a word
abbrev pub HaveWords : Shape → Type 0
HaveWords shape = (suit : Suit) → HasWord (suit_of shape suit)

-- a word tells a suit: it has at most 13 owners, and no bit after the last of them
pub record IsSuitWord (word : ℕ) : Type 0 where
  pub within : owner_count word ≤ 13
  pub blank : word / 2 ^ 20 < 2 ^ (2 * owner_count word)

-- a word tells none: it has over 13 owners, or a bit after the last of them
abbrev pub IsWrongWord : ℕ → Type 0
IsWrongWord word = (13 < owner_count word) ⊎ (2 ^ (2 * owner_count word) ≤ word / 2 ^ 20)

-- four suits, spades first
abbrev pub shape_with : SuitShape → SuitShape → SuitShape → SuitShape → Shape
shape_with spades hearts diamonds clubs =
    record { spades = spades; hearts = hearts; diamonds = diamonds; clubs = clubs }

-- the four suits that four words tell, spades first
abbrev pub shape_in : List ℕ → Shape
shape_in words = record {
  spades = suit_in (slice_index words 0);
  hearts = suit_in (slice_index words 1);
  diamonds = suit_in (slice_index words 2);
  clubs = suit_in (slice_index words 3);
}

-- the words of four suits, spades first
abbrev pub words_of : Shape → List ℕ
words_of shape = word_of shape.spades ∷ word_of shape.hearts ∷ word_of shape.diamonds ∷ word_of shape.clubs ∷ []

-- four words that tell suits
pub record AreWords (words : List ℕ) : Type 0 where
  pub four : length words ≡ 4
  pub each : (suit : Suit) → IsSuitWord (slice_index words (suit_number suit))

-- one of them tells none
abbrev pub HasWrongWord : List ℕ → Type 0
HasWrongWord words = (suit : Suit) × IsWrongWord (slice_index words (suit_number suit))

-- the answer for four words: a wrong word comes before all other faults
abbrev pub MeetsWords : ℕ → ℕ → List ℕ → Result Shape PatternFault → Type 0
MeetsWords fewest most words (Ok shape) = AreWords words × (shape ≡ shape_in words) × IsShape fewest most shape
MeetsWords fewest most words (Err fault) =
    ((fault ≡ Words) × HasWrongWord words) ⊎ (AreWords words × IsFault fewest most (shape_in words) fault)

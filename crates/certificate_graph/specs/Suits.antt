-- Suits as they are read, each in the word that a pattern is made of.
use Rattle.std.specs.Prelude.{◌≡◌, ℕ, ◌+◌, List, [], ◌∷◌, ◌++◌, slice_index}
use Rattle.std.specs.Int.{IsInRange}
use Rattle.cards.specs.declared.seats.Seat.{Seat}
use Rattle.patterns.specs.Shapes.{Shape}
use Rattle.patterns.specs.Words.{IsSuitWord, suit_in, shape_in}
use Rattle.certificate_graph.specs.declared.nodes.Node.{Node}
use Rattle.certificate_graph.specs.declared.line_reading.Line.{Line}
use Rattle.certificate_graph.specs.declared.pattern_reading.Suits.{Suits}
use Rattle.certificate_graph.specs.Trees.{TrickTree}

-- a digit stands in this place of a text, and the byte behind it
pub record HasDigit (text : List ℕ) (place byte : ℕ) : Type 0 where
  pub digit : IsInRange 48 57 (slice_index text place)
  pub before : slice_index text (place + 1) ≡ byte

-- the word is that of a suit with these lengths and owners
pub record IsWordOf (word : ℕ) (lens : List ℕ) (owners : List Seat) : Type 0 where
  pub is_word : IsSuitWord word
  pub lens_are : (suit_in word).lens ≡ lens
  pub owners_are : (suit_in word).owners ≡ owners

-- another word has the lengths of this one, and these owners behind its own
abbrev pub HasOwners : ℕ → List Seat → ℕ → Type 0
HasOwners word more other = IsWordOf other (suit_in word).lens ((suit_in word).owners ++ more)

-- the four words, spades first
abbrev pub words_read : Suits → List ℕ
words_read suits = suits.spades ∷ suits.hearts ∷ suits.diamonds ∷ suits.clubs ∷ []

abbrev pub shape_read : Suits → Shape
shape_read suits = shape_in (words_read suits)

abbrev pub node_read : Line → TrickTree → Node
node_read line tree = record { pattern = shape_read line.suits; lead = line.lead; need = line.need; tree = tree }

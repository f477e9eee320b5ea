-- Four hands as DDS has them, clockwise from North: each has a word for spades, hearts, diamonds and clubs, in which
-- bit 2 stands for the deuce and bit 14 for the ace.
use Rattle.std.specs.Prelude.{◌≡◌, ◌≢◌, ◌⊎◌, ◌↔◌, ℕ, ◌+◌, ◌*◌, ◌/◌, ◌^◌, ◌<◌, ◌≤◌, List, [], ◌∷◌}
use Rattle.std.specs.Prelude.{Result, Ok, Err, Some, slice_index, slice_index_or, count_ones}
use Rattle.std.specs.Int.{bit_at}
use Rattle.cards.specs.declared.seats.Seat.{Seat}
use Rattle.cards.specs.declared.seats.Seat.TheVariants.{North, East, South, West}
use Rattle.cards.specs.declared.suits.Suit.{Suit}
use Rattle.cards.specs.declared.pack.Card.{Card}
use Rattle.cards.specs.Pack.{suit_number, rank_number}
use Rattle.cards.specs.Seats.{seat_number}
use Rattle.cards.specs.Deal.{Deal, IsLayout, holder_of}
use Rattle.dds_calls.specs.declared.hands.HandsFault.{HandsFault}
use Rattle.dds_calls.specs.declared.hands.HandsFault.TheVariants.{StrayBit, NoCards, TooManyCards, Unequal, CardTwice}

-- the words of a seat's suits
abbrev pub suits_of : List (List ℕ) → Seat → List ℕ
suits_of hands seat = slice_index_or hands (seat_number seat) []

-- the word of one of these suits
abbrev pub word_in : List ℕ → Suit → ℕ
word_in suits suit = slice_index suits (suit_number suit)

-- the bit of a card is set
abbrev pub HasCardIn : List ℕ → Card → Type 0
HasCardIn suits card = bit_at (word_in suits card.suit) (rank_number card.rank + 2) ≡ 1

-- the seat has the card
abbrev pub HasCard : List (List ℕ) → Seat → Card → Type 0
HasCard hands seat card = HasCardIn (suits_of hands seat) card

-- A word stands for cards: it is 0, or has a bit from the deuce's on and none above the ace's. DDS passes over the two
-- bits below the deuce's.
abbrev pub IsOfCards : ℕ → Type 0
IsOfCards word = (word ≡ 0) ⊎ ((4 ≤ word) × (word < 2 ^ 15))

abbrev pub AreOfCards : List (List ℕ) → Type 0
AreOfCards hands = (seat : Seat) (suit : Suit) → IsOfCards (word_in (suits_of hands seat) suit)

-- some word stands for no cards
abbrev pub HaveStrayBit : List (List ℕ) → Type 0
HaveStrayBit hands = (seat : Seat) × (suit : Suit) × (IsOfCards (word_in (suits_of hands seat) suit) → ⊥)

-- a hand as one word: 13 bits for each suit, spades lowest
abbrev pub hand_word : List ℕ → ℕ
hand_word suits =
    slice_index suits 0 / 4 + 8192 *
    (slice_index suits 1 / 4 + 8192 *
    (slice_index suits 2 / 4 + 8192 * (slice_index suits 3 / 4)))

-- the four hands in this way
abbrev pub words_of : List (List ℕ) → List ℕ
words_of hands =
    hand_word (suits_of hands North) ∷ hand_word (suits_of hands East)
    ∷ hand_word (suits_of hands South) ∷ hand_word (suits_of hands West) ∷ []

-- how many cards a hand of such words has, and how many all have
abbrev pub size_of : List ℕ → Seat → ℕ
size_of words seat = count_ones (slice_index words (seat_number seat))

abbrev pub cards_in : List ℕ → ℕ
cards_in words = size_of words North + size_of words East + size_of words South + size_of words West

-- there are cards, and no more than the pack has
abbrev pub AreSomeCards : List ℕ → Type 0
AreSomeCards words = (1 ≤ cards_in words) × (cards_in words ≤ 52)

-- there are cards, no more than the pack has, and equally many in each hand
abbrev pub HaveSizes : List ℕ → Type 0
HaveSizes words = AreSomeCards words × ((seat : Seat) → size_of words seat ≡ size_of words North)

-- the first fault that the sizes have
abbrev pub IsSizesFault : List ℕ → HandsFault → Type 0
IsSizesFault words NoCards = cards_in words ≡ 0
IsSizesFault words TooManyCards = 52 < cards_in words
IsSizesFault words Unequal = AreSomeCards words × (seat : Seat) × (size_of words seat ≢ size_of words North)
IsSizesFault words StrayBit = ⊥
IsSizesFault words CardTwice = ⊥

-- two seats have the same card
pub record HaveCardTwice (hands : List (List ℕ)) : Type 0 where
  pub card : Card
  pub one : Seat
  pub other : Seat
  pub apart : one ≢ other
  pub in_one : HasCard hands one card
  pub in_other : HasCard hands other card

-- the layout in which each seat holds the cards that it has here, and no others
pub record IsLayoutIn (hands : List (List ℕ)) (deal : Deal) : Type 0 where
  pub of_cards : AreOfCards hands
  pub holders : (card : Card) (seat : Seat) → (holder_of deal card ≡ Some seat) ↔ HasCard hands seat card
  pub layout : IsLayout deal

-- the layout of four hands, or the first fault that applies
abbrev pub MeetsHands : List (List ℕ) → Result Deal HandsFault → Type 0
MeetsHands hands (Ok deal) = IsLayoutIn hands deal
MeetsHands hands (Err StrayBit) = HaveStrayBit hands
MeetsHands hands (Err CardTwice) = AreOfCards hands × HaveSizes (words_of hands) × HaveCardTwice hands
MeetsHands hands (Err fault) = AreOfCards hands × IsSizesFault (words_of hands) fault

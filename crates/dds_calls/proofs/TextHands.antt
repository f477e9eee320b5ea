-- The suits of a hand's word have its bits.
use Rattle.std.proofs.Common.{◌≡◌, ℕ, zero, suc, refl, ◌+◌, ◌*◌, ◌/◌, ◌%◌, ◌^◌, ◌<◌, List, [], ◌∷◌, arith, ◌∙◌, ap}
use Rattle.std.proofs.Common.{inl, inr}
use Rattle.std.specs.Int.{bit_at}
use Rattle.std.proofs.lemmas.Nat.{shr-shr}
use Rattle.cards.specs.declared.seats.Seat.{Seat}
use Rattle.cards.specs.declared.seats.Seat.TheVariants.{North, East, South, West}
use Rattle.cards.specs.declared.suits.Suit.{Suit}
use Rattle.cards.specs.declared.suits.Suit.TheVariants.{Spades, Hearts, Diamonds, Clubs}
use Rattle.cards.specs.declared.pack.Rank.{Rank}
use Rattle.cards.specs.declared.pack.Rank.TheVariants.{Two, Three, Four, Five, Six, Seven}
use Rattle.cards.specs.declared.pack.Rank.TheVariants.{Eight, Nine, Ten, Jack, Queen, King, Ace}
use Rattle.cards.specs.declared.pack.Card.{Card}
use Rattle.cards.specs.Pack.{card_number, rank_number}
use Rattle.cards.specs.Hands.{word_of}
use Rattle.dds_calls.specs.Hands.{AreOfCards, IsOfCards, word_in, suits_of}
use Rattle.dds_calls.specs.Texts.{suits_of_word}

moved : (x : ℕ) (rank : Rank) → bit_at (x % 8192 * 4) (rank_number rank + 2) ≡ bit_at x (rank_number rank)
moved x Two = omega arith
moved x Three = omega arith
moved x Four = omega arith
moved x Five = omega arith
moved x Six = omega arith
moved x Seven = omega arith
moved x Eight = omega arith
moved x Nine = omega arith
moved x Ten = omega arith
moved x Jack = omega arith
moved x Queen = omega arith
moved x King = omega arith
moved x Ace = omega arith

cut : (word k r : ℕ) → bit_at (word / 2 ^ k) r ≡ bit_at word (k + r)
cut word k r = ap (λ n. n % 2) (shr-shr word k r)

suit_bit : (word : ℕ) (suit : Suit) (rank : Rank)
    → bit_at (word_in (suits_of_word word) suit) (rank_number rank + 2) ≡ bit_at word (card_number (record { suit = suit; rank = rank }))
suit_bit word Spades rank =
    let same : rank_number rank ≡ 0 + rank_number rank = omega arith in
    moved word rank ∙ ap (λ i. bit_at word i) same
suit_bit word Hearts rank = moved (word / 2 ^ 13) rank ∙ cut word 13 (rank_number rank)
suit_bit word Diamonds rank = moved (word / 2 ^ 26) rank ∙ cut word 26 (rank_number rank)
suit_bit word Clubs rank = moved (word / 2 ^ 39) rank ∙ cut word 39 (rank_number rank)

pub card_bit_of : (word : ℕ) (card : Card)
    → bit_at (word_in (suits_of_word word) card.suit) (rank_number card.rank + 2) ≡ bit_at word (card_number card)
card_bit_of word card = suit_bit word card.suit card.rank

shifted_is_of_cards : (n : ℕ) → n < 8192 → IsOfCards (n * 4)
shifted_is_of_cards zero h = inl refl
shifted_is_of_cards (suc n) h = inr (omega arith, omega arith)

cut_is_of_cards : (x : ℕ) → IsOfCards (x % 8192 * 4)
cut_is_of_cards x = shifted_is_of_cards (x % 8192) (omega arith)

pub suits_are_of_cards : (word : ℕ) (suit : Suit) → IsOfCards (word_in (suits_of_word word) suit)
suits_are_of_cards word Spades = cut_is_of_cards word
suits_are_of_cards word Hearts = cut_is_of_cards (word / 2 ^ 13)
suits_are_of_cards word Diamonds = cut_is_of_cards (word / 2 ^ 26)
suits_are_of_cards word Clubs = cut_is_of_cards (word / 2 ^ 39)

-- the hands of four words
abbrev pub hands_with : List ℕ → List (List ℕ)
hands_with words =
    suits_of_word (word_of words North) ∷ suits_of_word (word_of words East)
    ∷ suits_of_word (word_of words South) ∷ suits_of_word (word_of words West) ∷ []

pub hands_are_of_cards : (words : List ℕ) → AreOfCards (hands_with words)
hands_are_of_cards words North = suits_are_of_cards (word_of words North)
hands_are_of_cards words East = suits_are_of_cards (word_of words East)
hands_are_of_cards words South = suits_are_of_cards (word_of words South)
hands_are_of_cards words West = suits_are_of_cards (word_of words West)

pub hand_bit_of : (words : List ℕ) (seat : Seat) (card : Card)
    → bit_at (word_in (suits_of (hands_with words) seat) card.suit) (rank_number card.rank + 2) ≡ bit_at (word_of words seat) (card_number card)
hand_bit_of words North card = card_bit_of (word_of words North) card
hand_bit_of words East card = card_bit_of (word_of words East) card
hand_bit_of words South card = card_bit_of (word_of words South) card
hand_bit_of words West card = card_bit_of (word_of words West) card

-- The bits of a hand's word are those of its suits' words.
use Rattle.std.proofs.Common.{◌≡◌, ℕ, ◌+◌, ◌*◌, ◌/◌, ◌%◌, ◌^◌, ◌<◌, List, arith, sym, ◌∙◌, ap, slice_index, inl, inr}
use Rattle.std.specs.Int.{bit_at}
use Rattle.std.proofs.lemmas.Nat.{shr-shr}
use Rattle.cards.specs.declared.suits.Suit.{Suit}
use Rattle.cards.specs.declared.suits.Suit.TheVariants.{Spades, Hearts, Diamonds, Clubs}
use Rattle.cards.specs.declared.pack.Rank.{Rank}
use Rattle.cards.specs.declared.pack.Rank.TheVariants.{Two, Three, Four, Five, Six, Seven}
use Rattle.cards.specs.declared.pack.Rank.TheVariants.{Eight, Nine, Ten, Jack, Queen, King, Ace}
use Rattle.cards.specs.Pack.{card_number, rank_number}
use Rattle.dds_calls.specs.Hands.{IsOfCards, word_in, hand_word}

-- a suit's part of the word
pub part-lt : (word : ℕ) → IsOfCards word → word / 4 < 8192
part-lt word h = elim h [ inl e ↦ omega arith | inr b ↦ omega arith ]

-- the lowest thirteen bits
pub low_bits : (a rest : ℕ) → a < 8192 → (rank : Rank)
    → bit_at (a + 8192 * rest) (rank_number rank) ≡ bit_at a (rank_number rank)
low_bits a rest h Two = omega arith
low_bits a rest h Three = omega arith
low_bits a rest h Four = omega arith
low_bits a rest h Five = omega arith
low_bits a rest h Six = omega arith
low_bits a rest h Seven = omega arith
low_bits a rest h Eight = omega arith
low_bits a rest h Nine = omega arith
low_bits a rest h Ten = omega arith
low_bits a rest h Jack = omega arith
low_bits a rest h Queen = omega arith
low_bits a rest h King = omega arith
low_bits a rest h Ace = omega arith

-- the bits above them
pub high_bits : (a rest i : ℕ) → a < 8192 → bit_at (a + 8192 * rest) (13 + i) ≡ bit_at rest i
high_bits a rest i h =
    let cut : (a + 8192 * rest) / 2 ^ 13 ≡ rest = omega arith in
    ap (λ n. n % 2) (sym (shr-shr (a + 8192 * rest) 13 i) ∙ ap (λ n. n / 2 ^ i) cut)

-- a card's bit without the two bits below the deuce's
pub card_bit : (word : ℕ) (rank : Rank) → bit_at (word / 4) (rank_number rank) ≡ bit_at word (rank_number rank + 2)
card_bit word Two = omega arith
card_bit word Three = omega arith
card_bit word Four = omega arith
card_bit word Five = omega arith
card_bit word Six = omega arith
card_bit word Seven = omega arith
card_bit word Eight = omega arith
card_bit word Nine = omega arith
card_bit word Ten = omega arith
card_bit word Jack = omega arith
card_bit word Queen = omega arith
card_bit word King = omega arith
card_bit word Ace = omega arith

pub hand_bit : (suits : List ℕ) → ((suit : Suit) → IsOfCards (word_in suits suit)) → (suit : Suit) (rank : Rank)
    → bit_at (hand_word suits) (card_number (record { suit = suit; rank = rank })) ≡ bit_at (word_in suits suit) (rank_number rank + 2)
hand_bit suits of Spades rank =
    let moved : 0 + rank_number rank ≡ rank_number rank = omega arith in
    ap (λ i. bit_at (hand_word suits) i) moved
    ∙ (low_bits _ _ (part-lt _ (of Spades)) rank ∙ card_bit (slice_index suits 0) rank)
hand_bit suits of Hearts rank =
    high_bits _ _ (rank_number rank) (part-lt _ (of Spades))
    ∙ (low_bits _ _ (part-lt _ (of Hearts)) rank ∙ card_bit (slice_index suits 1) rank)
hand_bit suits of Diamonds rank =
    let moved : 26 + rank_number rank ≡ 13 + (13 + rank_number rank) = omega arith in
    ap (λ i. bit_at (hand_word suits) i) moved
    ∙ (high_bits _ _ (13 + rank_number rank) (part-lt _ (of Spades))
    ∙ (high_bits _ _ (rank_number rank) (part-lt _ (of Hearts))
    ∙ (low_bits _ _ (part-lt _ (of Diamonds)) rank ∙ card_bit (slice_index suits 2) rank)))
hand_bit suits of Clubs rank =
    let moved : 39 + rank_number rank ≡ 13 + (13 + (13 + rank_number rank)) = omega arith in
    let clubs : bit_at (slice_index suits 3 / 4) (rank_number rank) ≡ bit_at (slice_index suits 3) (rank_number rank + 2) = card_bit (slice_index suits 3) rank in
    ap (λ i. bit_at (hand_word suits) i) moved
    ∙ (high_bits _ _ (13 + (13 + rank_number rank)) (part-lt _ (of Spades))
    ∙ (high_bits _ _ (13 + rank_number rank) (part-lt _ (of Hearts))
    ∙ (high_bits _ _ (rank_number rank) (part-lt _ (of Diamonds)) ∙ clubs)))

pub hand_word-lt : (suits : List ℕ) → ((suit : Suit) → IsOfCards (word_in suits suit)) → hand_word suits < 2 ^ 52
hand_word-lt suits of =
    let spades : slice_index suits 0 / 4 < 8192 = part-lt _ (of Spades) in
    let hearts : slice_index suits 1 / 4 < 8192 = part-lt _ (of Hearts) in
    let diamonds : slice_index suits 2 / 4 < 8192 = part-lt _ (of Diamonds) in
    let clubs : slice_index suits 3 / 4 < 8192 = part-lt _ (of Clubs) in
    omega arith

-- A card and its number name each other.
use Rattle.std.proofs.Common.{◌≡◌, ℕ, zero, suc, ◌/◌, ◌%◌, ◌<◌, refl, sym, ◌∙◌, ap, arith}
use Rattle.cards.specs.declared.suits.Suit.{Suit}
use Rattle.cards.specs.declared.suits.Suit.TheVariants.{Spades, Hearts, Diamonds, Clubs}
use Rattle.cards.specs.declared.pack.Rank.{Rank}
use Rattle.cards.specs.declared.pack.Rank.TheVariants.{Two, Three, Four, Five, Six, Seven, Eight, Nine, Ten, Jack, Queen, King, Ace}
use Rattle.cards.specs.declared.pack.Card.{Card}
use Rattle.cards.specs.Pack.{suit_number, rank_number, card_number, suit_at, rank_at, card_at, card_of}

pub suit_number-suit_at : (n : ℕ) → n < 4 → suit_number (suit_at n) ≡ n
suit_number-suit_at zero h = refl
suit_number-suit_at (suc zero) h = refl
suit_number-suit_at (suc (suc zero)) h = refl
suit_number-suit_at (suc (suc (suc zero))) h = refl
suit_number-suit_at (suc (suc (suc (suc n)))) h = absurd (omega arith)

pub rank_number-rank_at : (n : ℕ) → n < 13 → rank_number (rank_at n) ≡ n
rank_number-rank_at zero h = refl
rank_number-rank_at (suc zero) h = refl
rank_number-rank_at (suc (suc zero)) h = refl
rank_number-rank_at (suc (suc (suc zero))) h = refl
rank_number-rank_at (suc (suc (suc (suc zero)))) h = refl
rank_number-rank_at (suc (suc (suc (suc (suc zero))))) h = refl
rank_number-rank_at (suc (suc (suc (suc (suc (suc zero)))))) h = refl
rank_number-rank_at (suc (suc (suc (suc (suc (suc (suc zero))))))) h = refl
rank_number-rank_at (suc (suc (suc (suc (suc (suc (suc (suc zero)))))))) h = refl
rank_number-rank_at (suc (suc (suc (suc (suc (suc (suc (suc (suc zero))))))))) h = refl
rank_number-rank_at (suc (suc (suc (suc (suc (suc (suc (suc (suc (suc zero)))))))))) h = refl
rank_number-rank_at (suc (suc (suc (suc (suc (suc (suc (suc (suc (suc (suc zero))))))))))) h = refl
rank_number-rank_at (suc (suc (suc (suc (suc (suc (suc (suc (suc (suc (suc (suc zero)))))))))))) h = refl
rank_number-rank_at (suc (suc (suc (suc (suc (suc (suc (suc (suc (suc (suc (suc (suc n))))))))))))) h = absurd (omega arith)

pub card_number-card_at : (n : ℕ) → n < 52 → card_number (card_at n) ≡ n
card_number-card_at n h =
    let s : suit_number (suit_at (n / 13)) ≡ n / 13 = suit_number-suit_at (n / 13) (omega arith) in
    let r : rank_number (rank_at (n % 13)) ≡ n % 13 = rank_number-rank_at (n % 13) (omega arith) in
    omega arith

pub suit_number-lt : (s : Suit) → suit_number s < 4
suit_number-lt Spades = omega arith
suit_number-lt Hearts = omega arith
suit_number-lt Diamonds = omega arith
suit_number-lt Clubs = omega arith

pub rank_number-lt : (r : Rank) → rank_number r < 13
rank_number-lt Two = omega arith
rank_number-lt Three = omega arith
rank_number-lt Four = omega arith
rank_number-lt Five = omega arith
rank_number-lt Six = omega arith
rank_number-lt Seven = omega arith
rank_number-lt Eight = omega arith
rank_number-lt Nine = omega arith
rank_number-lt Ten = omega arith
rank_number-lt Jack = omega arith
rank_number-lt Queen = omega arith
rank_number-lt King = omega arith
rank_number-lt Ace = omega arith

pub card_number-lt : (c : Card) → card_number c < 52
card_number-lt c = omega (arith, suit_number-lt c.suit, rank_number-lt c.rank)

pub suit_at-suit_number : (s : Suit) → suit_at (suit_number s) ≡ s
suit_at-suit_number Spades = refl
suit_at-suit_number Hearts = refl
suit_at-suit_number Diamonds = refl
suit_at-suit_number Clubs = refl

pub rank_at-rank_number : (r : Rank) → rank_at (rank_number r) ≡ r
rank_at-rank_number Two = refl
rank_at-rank_number Three = refl
rank_at-rank_number Four = refl
rank_at-rank_number Five = refl
rank_at-rank_number Six = refl
rank_at-rank_number Seven = refl
rank_at-rank_number Eight = refl
rank_at-rank_number Nine = refl
rank_at-rank_number Ten = refl
rank_at-rank_number Jack = refl
rank_at-rank_number Queen = refl
rank_at-rank_number King = refl
rank_at-rank_number Ace = refl

pub card_at-card_number : (c : Card) → card_at (card_number c) ≡ c
card_at-card_number c =
    let sl = suit_number-lt c.suit in
    let rl = rank_number-lt c.rank in
    let s : card_number c / 13 ≡ suit_number c.suit = omega arith in
    let r : card_number c % 13 ≡ rank_number c.rank = omega arith in
    let es : suit_at (card_number c / 13) ≡ c.suit = ap suit_at s ∙ suit_at-suit_number c.suit in
    let er : rank_at (card_number c % 13) ≡ c.rank = ap rank_at r ∙ rank_at-rank_number c.rank in
    ap (λ x. card_of x (rank_at (card_number c % 13))) es ∙ ap (card_of c.suit) er

-- two cards with one number are one card
pub same_from_numbers : (c e : Card) → card_number c ≡ card_number e → c ≡ e
same_from_numbers c e h = sym (card_at-card_number c) ∙ (ap card_at h ∙ card_at-card_number e)

pub same_from_suit_numbers : (s t : Suit) → suit_number s ≡ suit_number t → s ≡ t
same_from_suit_numbers s t h = sym (suit_at-suit_number s) ∙ (ap suit_at h ∙ suit_at-suit_number t)

pub same_from_rank_numbers : (r t : Rank) → rank_number r ≡ rank_number t → r ≡ t
same_from_rank_numbers r t h = sym (rank_at-rank_number r) ∙ (ap rank_at h ∙ rank_at-rank_number t)

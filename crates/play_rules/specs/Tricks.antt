-- One trick of four cards, and the card that wins it (Law 44E and 44F).
use Rattle.std.specs.Prelude.{◌≡◌, ℕ, zero, suc, ◌≤◌}
use Rattle.cards.specs.declared.suits.Suit.{Suit}
use Rattle.cards.specs.declared.suits.Trump.{Trump}
use Rattle.cards.specs.declared.suits.Trump.TheVariants as trump
use Rattle.cards.specs.declared.pack.Card.{Card}
use Rattle.cards.specs.Pack.{rank_number}

-- the cards of a trick, in the order in which they were played
pub record Trick : Type 0 where
  pub first : Card
  pub second : Card
  pub third : Card
  pub fourth : Card

-- the card of the seat that is this many places clockwise from the leader, up to three
abbrev pub card_in_place : Trick → ℕ → Card
card_in_place trick zero = trick.first
card_in_place trick (suc zero) = trick.second
card_in_place trick (suc (suc zero)) = trick.third
card_in_place trick (suc (suc (suc n))) = trick.fourth

-- the card in this place is the highest of its trick in the suit
pub record IsHighest (trick : Trick) (suit : Suit) (place : ℕ) : Type 0 where
  pub of_suit : (card_in_place trick place).suit ≡ suit
  pub highest :
      (other : ℕ) → (card_in_place trick other).suit ≡ suit
      → rank_number (card_in_place trick other).rank ≤ rank_number (card_in_place trick place).rank

-- a card of the suit was played to the trick
abbrev pub HasSuit : Trick → Suit → Type 0
HasSuit trick suit = (place : ℕ) × ((card_in_place trick place).suit ≡ suit)

-- The card in this place wins: the highest trump if one was played, otherwise the highest card of the suit led.
abbrev pub WinsAt : Trump → Trick → ℕ → Type 0
WinsAt trump.Nt trick place = IsHighest trick trick.first.suit place
WinsAt (trump.Suit suit) trick place =
    (HasSuit trick suit → IsHighest trick suit place)
    × ((HasSuit trick suit → ⊥) → IsHighest trick trick.first.suit place)

-- no card was played twice to the trick
abbrev pub AreFourCards : Trick → Type 0
AreFourCards trick =
    (one other : ℕ) → one ≤ 3 → other ≤ 3 → card_in_place trick one ≡ card_in_place trick other → one ≡ other

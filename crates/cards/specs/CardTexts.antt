-- The text of cards.
use Rattle.std.specs.Prelude.{ℕ, List, ◌∷◌, ◌++◌, flat_map}
use Rattle.cards.specs.declared.pack.Card.{Card}
use Rattle.cards.specs.Pack.{suit_letter, rank_letter}
use Rattle.cards.specs.Bytes as ascii

-- a card, the letters of its suit and of its rank: `SA`
abbrev pub card_text : Card → List ℕ
card_text card = suit_letter card.suit ++ rank_letter card.rank

-- cards, each after a blank
abbrev pub cards_text : List Card → List ℕ
cards_text cards = flat_map (λ (card : Card). ascii.blank ∷ card_text card) cards

-- The values so far are those of the cards so far.
use Rattle.std.proofs.Common.{◌≡◌, ℕ, ◌+◌, ◌<◌, ◌≤◌, List, [], ◌∷◌, ◌++◌, length, take, get_or, Contains, sym, ◌∙◌, ap}
use Rattle.std.proofs.lemmas.List.{length-map, length-take-le, map-append, take_more, get_or_default}
use Rattle.cards.specs.declared.pack.Card.{Card}
use Rattle.card_values.specs.declared.values.CardValue.{CardValue}
use Rattle.card_values.specs.CardValues.{cards_of}

-- a card in a list is one of its cards
pub is_listed : (cards : List Card) (place : ℕ) (other : Card) → place < length cards → Contains cards (get_or cards place other)
is_listed cards place other less = (place, less, get_or_default cards place (get_or cards place other) other less)

pub as_many_values : (values : List CardValue) (cards : List Card) (place : ℕ) → cards_of values ≡ take place cards → place ≤ length cards → length values ≡ place
as_many_values values cards place are within = sym (length-map values (λ (value : CardValue). value.card)) ∙ (ap length are ∙ length-take-le place cards within)

-- one more
pub one_more_value : (values more : List CardValue) (value : CardValue) (cards : List Card) (place : ℕ) (other : Card) → place < length cards → cards_of values ≡ take place cards → value.card ≡ get_or cards place other → more ≡ values ++ value ∷ [] → cards_of more ≡ take (place + 1) cards
one_more_value values more value cards place other less are card_is is =
    ap cards_of is
    ∙ (map-append (λ (value : CardValue). value.card) values (value ∷ [])
    ∙ (ap (λ (l : List Card). l ++ value.card ∷ []) are ∙ (ap (λ (c : Card). take place cards ++ c ∷ []) card_is ∙ sym (take_more cards place other less))))

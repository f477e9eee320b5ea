-- Sets of cards as words. Each bit is a card: sixteen bits a suit, the higher bit the higher card.
use Rattle.std.specs.Prelude.{◌≡◌, ℕ, ◌+◌, ◌/◌, ◌^◌, ◌<◌, ◌≤◌, ◌⊎◌, ◌↔◌}
use Rattle.std.specs.Int.{bit_at}

-- the card with this bit is in the set
abbrev pub HasCard : ℕ → ℕ → Type 0
HasCard cards bit = bit_at cards bit ≡ 1

-- some card is in both sets
abbrev pub ShareCard : ℕ → ℕ → Type 0
ShareCard one other = (bit : ℕ) × HasCard one bit × HasCard other bit

-- the lowest card of the set has this bit
pub record LowestIs (cards bit : ℕ) : Type 0 where
  pub in_set : HasCard cards bit
  pub lowest : (other : ℕ) → HasCard cards other → bit ≤ other

-- the highest card of the set has this bit
pub record HighestIs (cards bit : ℕ) : Type 0 where
  pub in_set : HasCard cards bit
  pub highest : (other : ℕ) → HasCard cards other → other ≤ bit

-- this is the lowest card of the set, alone, or both sets are empty
abbrev pub IsLowestOf : ℕ → ℕ → Type 0
IsLowestOf cards card = ((cards ≡ 0) × (card ≡ 0)) ⊎ ((bit : ℕ) × LowestIs cards bit × (card ≡ 2 ^ bit))

-- this is the highest card of the set, alone, or both sets are empty
abbrev pub IsHighestOf : ℕ → ℕ → Type 0
IsHighestOf cards card = ((cards ≡ 0) × (card ≡ 0)) ⊎ ((bit : ℕ) × HighestIs cards bit × (card ≡ 2 ^ bit))

-- these are the cards of the set but its lowest, or both sets are empty
abbrev pub LacksLowest : ℕ → ℕ → Type 0
LacksLowest cards rest = ((cards ≡ 0) × (rest ≡ 0)) ⊎ ((bit : ℕ) × LowestIs cards bit × (rest + 2 ^ bit ≡ cards))

-- the set has all cards below the one with this bit, and no others
abbrev pub AreBelow : ℕ → ℕ → Type 0
AreBelow bit cards = (other : ℕ) → HasCard cards other ↔ (other < bit)

-- the set has all bits of a suit, and no others; the lowest suit of the word is 0
abbrev pub AreOfSuit : ℕ → ℕ → Type 0
AreOfSuit suit cards = (other : ℕ) → HasCard cards other ↔ (other / 16 ≡ suit)

-- these are the cards of the first set that the second lacks
abbrev pub AreWithout : ℕ → ℕ → ℕ → Type 0
AreWithout cards gone left = (bit : ℕ) → HasCard left bit ↔ (HasCard cards bit × (HasCard gone bit → ⊥))

-- DDS's numbers of denominations: the suits in their order, and then no-trump.
use Rattle.std.specs.Prelude.{◌≢◌, ℕ, ℤ, pos}
use Rattle.cards.specs.declared.suits.Trump.{Trump}
use Rattle.cards.specs.declared.suits.Trump.TheVariants as trump
use Rattle.cards.specs.Pack.{suit_number}

-- the row of a denomination in a table
abbrev pub strain_number : Trump → ℕ
strain_number (trump.Suit suit) = suit_number suit
strain_number trump.Nt = 4

-- the number by which a call names a denomination
abbrev pub denomination_number : Trump → ℤ
denomination_number trump = pos (strain_number trump)

-- the number stands for no denomination
abbrev pub IsNoDenomination : ℤ → Type 0
IsNoDenomination number = (trump : Trump) → denomination_number trump ≢ number

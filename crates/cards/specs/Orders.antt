-- The numbers by which things are listed and compared.
use Rattle.std.specs.Prelude.{◌≡◌, ℕ, ◌+◌, Bool}
use Rattle.std.specs.Bool.{Decides}
use Rattle.std.specs.Ordering.{nat_cmp}
use Rattle.std.specs.declared.cmp.Ordering.{Ordering}
use Rattle.cards.specs.declared.suits.Trump.{Trump}
use Rattle.cards.specs.declared.suits.Trump.TheVariants as trump
use Rattle.cards.specs.Pack.{suit_number}

-- the place of a denomination: no-trump first, and then the suits in their order
abbrev pub trump_number : Trump → ℕ
trump_number trump.Nt = 0
trump_number (trump.Suit suit) = suit_number suit + 1

-- things compare as their numbers do
abbrev pub ComparesBy : {A : Type 0} → (A → ℕ) → (A → A → Ordering) → Type 0
ComparesBy {A} number order = (one other : A) → order one other ≡ nat_cmp (number one) (number other)

-- a test of two things says whether they are the same
abbrev pub SaysSame : {A : Type 0} → (A → A → Bool) → Type 0
SaysSame {A} test = (one other : A) → Decides (test one other) (one ≡ other)

-- What is passed over of a whole text: its damaged parts, counted.
use Rattle.std.specs.Prelude.{◌≡◌, ℕ, ◌-◌, ◌^◌, min, List, [], ◌∷◌, length}
use Rattle.evidence.specs.declared.parts.Part.{Part}
use Rattle.evidence.specs.declared.parts.Part.TheVariants.{Found, Damaged, End}
use Rattle.evidence.specs.declared.damages.Damage.{Damage}

-- the bytes where the damaged ones of some parts begin
abbrev pub damaged_of : List Part → List ℕ
damaged_of [] = []
damaged_of (Found section ∷ more) = damaged_of more
damaged_of (Damaged at ∷ more) = at ∷ damaged_of more
damaged_of (End ∷ more) = damaged_of more

-- the first of some bytes, 0 where there is none
abbrev pub first_of : List ℕ → ℕ
first_of [] = 0
first_of (at ∷ more) = at

-- how many are damaged, and where the first begins: both stop at the greatest number that is told
pub record IsDamageOf (damaged : List ℕ) (damage : Damage) : Type 0 where
  pub count_is : damage.count ≡ min (length damaged) (2 ^ 64 - 1)
  pub first_is : damage.first ≡ min (first_of damaged) (2 ^ 64 - 1)

-- The damage of some parts and one more.
use Rattle.std.proofs.Common.{◌≡◌, ℕ, ◌+◌, min, List, [], ◌∷◌, ◌++◌, refl, ap, arith}
use Rattle.evidence.specs.Sections.{SectionShape}
use Rattle.evidence.specs.declared.parts.Part.{Part}
use Rattle.evidence.specs.declared.parts.Part.TheVariants.{Found, Damaged, End}
use Rattle.evidence.specs.Damages.{damaged_of}

pub damaged_found : (parts : List Part) (section : SectionShape) → damaged_of (parts ++ Found section ∷ []) ≡ damaged_of parts
damaged_found [] section = refl
damaged_found (Found first ∷ parts) section = damaged_found parts section
damaged_found (Damaged at ∷ parts) section = ap (λ (d : List ℕ). at ∷ d) (damaged_found parts section)
damaged_found (End ∷ parts) section = damaged_found parts section

pub damaged_damaged : (parts : List Part) (at : ℕ) → damaged_of (parts ++ Damaged at ∷ []) ≡ damaged_of parts ++ at ∷ []
damaged_damaged [] at = refl
damaged_damaged (Found first ∷ parts) at = damaged_damaged parts at
damaged_damaged (Damaged byte ∷ parts) at = ap (λ (d : List ℕ). byte ∷ d) (damaged_damaged parts at)
damaged_damaged (End ∷ parts) at = damaged_damaged parts at

-- how many bytes stand before, after a piece more; the count stops
pub counts_on : (old middle new passed piece most : ℕ) → min middle most ≡ min (old + passed) most
    → new ≡ min (middle + piece) most
    → min new most ≡ min (old + (passed + piece)) most
counts_on old middle new passed piece most before counted = omega arith

-- The parts of a whole text: what each of its pieces is.
use Rattle.std.specs.Prelude.{◌≡◌, ℕ, ◌+◌, ◌-◌, List, [], ◌∷◌, length}
use Rattle.std.specs.Prelude.{Bool, true, false}
use Rattle.evidence.specs.declared.parts.Part.{Part}
use Rattle.evidence.specs.declared.parts.Part.TheVariants.{Found, Damaged, End}
use Rattle.evidence.specs.Pieces.{IsFirstPiece, IsFound, IsDamaged}

-- what a piece is that begins at this byte
abbrev pub IsPart : ℕ → List ℕ → Part → Type 0
IsPart at piece (Found section) = IsFound piece section
IsPart at piece (Damaged byte) = (byte ≡ at) × IsDamaged piece
IsPart at piece End = ⊥

-- what a piece is whose first bytes were let go, since it is too long, or of which all are here
abbrev pub IsPartOf : Bool → ℕ → List ℕ → Part → Type 0
IsPartOf true at piece part = part ≡ Damaged at
IsPartOf false at piece part = IsPart at piece part

-- the parts of a text that begins at this byte, one for each piece, in their order
abbrev pub AreParts : ℕ → List ℕ → List Part → Type 0
AreParts at text [] = text ≡ []
AreParts at text (part ∷ more) =
    (piece : List ℕ) × (rest : List ℕ) × IsFirstPiece text piece rest × IsPart at piece part
    × AreParts (at + length piece) rest more

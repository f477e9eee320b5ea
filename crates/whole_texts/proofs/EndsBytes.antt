-- The last byte of a text of two parts.
use Rattle.std.proofs.Common.{◌≡◌, ℕ, List, [], ◌∷◌, ◌++◌, Option, Some, refl}
use Rattle.whole_texts.specs.LineEnds.{last_of}

pub last-append : (before : Option ℕ) (one other : List ℕ) → last_of before (one ++ other) ≡ last_of (last_of before one) other
last-append before [] other = refl
last-append before (byte ∷ bytes) other = last-append (Some byte) bytes other

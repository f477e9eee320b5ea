-- A property of each byte, byte by byte.
use Rattle.std.proofs.Common.{ℕ, List, [], ◌∷◌, ◌++◌, All}
use Rattle.std.specs.Prelude.{⊤}
use Rattle.std.proofs.lemmas.List.Elements.{All-head, All-tail}

abbrev pub Each : (ℕ → Type 0) → List ℕ → Type 0
Each P [] = ⊤
Each P (byte ∷ bytes) = P byte × Each P bytes

pub each-append : (P : ℕ → Type 0) (one other : List ℕ) → Each P one → Each P other → Each P (one ++ other)
each-append P [] other h k = k
each-append P (byte ∷ one) other h k = (h.0, each-append P one other h.1 k)

pub each-weaker : (P Q : ℕ → Type 0) → ((byte : ℕ) → P byte → Q byte) → (bytes : List ℕ) → Each P bytes → Each Q bytes
each-weaker P Q f [] h = tt
each-weaker P Q f (byte ∷ bytes) h = (f byte h.0, each-weaker P Q f bytes h.1)

pub each-from : (P : ℕ → Type 0) (bytes : List ℕ) → All P bytes → Each P bytes
each-from P [] h = tt
each-from P (byte ∷ bytes) h = (All-head P byte bytes h, each-from P bytes (All-tail P byte bytes h))

-- A text is cut at a byte in one way.
use Rattle.std.proofs.Common.{◌≡◌, ◌≢◌, ℕ, List, [], ◌∷◌, ◌++◌, sym}
use Rattle.std.proofs.lemmas.List.Elements.{All-head, All-tail}
use Rattle.pbn_deals.specs.Reading.{Lacks}

-- ---- a text that is cut at the first such byte
pub one_cut : (byte : ℕ) (text text' rest rest' : List ℕ) → text ++ byte ∷ rest ≡ text' ++ byte ∷ rest' → Lacks byte text → Lacks byte text' → rest ≡ rest'
one_cut byte [] [] rest rest' e h h' = cc
one_cut byte [] (x ∷ xs) rest rest' e h h' = let same : byte ≡ x = cc in absurd (All-head (λ other. other ≢ byte) x xs h' (sym same))
one_cut byte (x ∷ xs) [] rest rest' e h h' = let same : x ≡ byte = cc in absurd (All-head (λ other. other ≢ byte) x xs h same)
one_cut byte (x ∷ xs) (y ∷ ys) rest rest' e h h' =
    let tails : xs ++ byte ∷ rest ≡ ys ++ byte ∷ rest' = cc in
    one_cut byte xs ys rest rest' tails (All-tail (λ other. other ≢ byte) x xs h) (All-tail (λ other. other ≢ byte) y ys h')

pub no_cut : (byte : ℕ) (whole text rest : List ℕ) → whole ≡ text ++ byte ∷ rest → Lacks byte whole → ⊥
no_cut byte [] [] rest e h = absurd (cc)
no_cut byte [] (x ∷ xs) rest e h = absurd (cc)
no_cut byte (x ∷ xs) [] rest e h = let same : x ≡ byte = cc in All-head (λ other. other ≢ byte) x xs h same
no_cut byte (x ∷ xs) (y ∷ ys) rest e h = let tails : xs ≡ ys ++ byte ∷ rest = cc in no_cut byte xs ys rest tails (All-tail (λ other. other ≢ byte) x xs h)

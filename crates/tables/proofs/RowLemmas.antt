-- A row from its pieces.
use Rattle.std.proofs.Common.{◌≡◌, ℕ, ◌<◌, ◌≤◌, cond, List, [], ◌∷◌, ◌++◌, length, sym, ◌∙◌, ap, append_assoc}
use Rattle.std.proofs.lemmas.Bool.{lt-ltb, le-ltb}
use Rattle.tables.specs.TablesText.{right_in_two}

pub right_in_two-short : (text : List ℕ) → length text < 2 → 32 ∷ text ≡ right_in_two text
right_in_two-short text h = sym (ap (λ b. cond b (32 ∷ text) text) (lt-ltb (length text) 2 h))

pub right_in_two-full : (text : List ℕ) → 2 ≤ length text → text ≡ right_in_two text
right_in_two-full text h = sym (ap (λ b. cond b (32 ∷ text) text) (le-ltb (length text) 2 h))

pub row-from_pieces : (seat indent letters padded rest : List ℕ) → indent ++ letters ≡ padded →
    seat ++ (32 ∷ (indent ++ (letters ++ rest))) ≡ (seat ++ (32 ∷ [])) ++ (padded ++ rest)
row-from_pieces seat indent letters padded rest e =
    ap (λ t. seat ++ (32 ∷ t)) (sym (append_assoc indent letters rest) ∙ ap (λ p. p ++ rest) e)
    ∙ sym (append_assoc seat (32 ∷ []) (padded ++ rest))

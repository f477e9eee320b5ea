-- The tags of a par's conditions as they are written.
use Rattle.std.proofs.Common.{◌≡◌, ℕ, List, [], ◌∷◌, ◌++◌, append_assoc}
use Rattle.std.specs.Prelude.{codes}
use Rattle.tables.specs.ParText.{tag_text, body_line}

pub lines-are : (dealer sides : List ℕ) → codes "[Dealer " ++ (34 ∷ (dealer ++ (34 ∷ 93 ∷ 10 ∷ (codes "[Vulnerable " ++ (34 ∷ (sides ++ (34 ∷ 93 ∷ 10 ∷ [])))))))
    ≡ body_line (10 ∷ []) (tag_text (codes "Dealer") dealer) ++ (body_line (10 ∷ []) (tag_text (codes "Vulnerable") sides) ++ [])
unfolding tag_text
lines-are dealer sides = simp append_assoc

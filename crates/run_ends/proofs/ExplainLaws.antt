-- A line that explains a fault, if there is a text.
use Rattle.std.proofs.Common.{◌≡◌, ℕ, Bool, true, false, List, [], ◌∷◌, ◌++◌, length, refl, ◌∙◌, ap}
use Rattle.std.specs.Prelude.{◌==◌, codes}
use Rattle.run_ends.specs.Explanations.{second_line}

pub second_line-text : (text : List ℕ) → (text ≡ [] → ⊥) → second_line text ≡ codes "  " ++ text ++ 10 ∷ []
second_line-text [] some = absurd (some refl)
second_line-text (byte ∷ more) some = refl

pub no_text : {text : List ℕ} {empty : Bool} → empty ≡ (length text == 0) → empty ≡ false → text ≡ [] → ⊥
no_text {text} {empty} is not_empty none =
    let yes : empty ≡ true = is ∙ ap (λ (t : List ℕ). length t == 0) none in
    cc

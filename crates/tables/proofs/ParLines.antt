-- The lines of par as they are written.
use Rattle.std.proofs.Common.{◌≡◌, ℕ, List, [], ◌∷◌, ◌++◌, Option, None, Some, refl, ap, append_assoc, append-nil}
use Rattle.std.specs.Prelude.{codes}
use Rattle.par.specs.Texts.{score_text, contracts_text}
use Rattle.tables.specs.declared.pars.BoardPar.{BoardPar}
use Rattle.tables.specs.declared.pars.BoardPar.TheVariants.{Known, NoDealer, NoVulnerability}
use Rattle.tables.specs.ParText.{tag_text, body_line, par_text}

pub score_line-is : (end value : List ℕ) → body_line end (tag_text (codes "OptimumScore") value) ≡ (91 ∷ (codes "OptimumScore" ++ (32 ∷ 34 ∷ []))) ++ (value ++ (34 ∷ 93 ∷ end))
unfolding tag_text
score_line-is end value = ap (λ (l : List ℕ). (91 ∷ (codes "OptimumScore" ++ (32 ∷ 34 ∷ []))) ++ l) (append_assoc value (34 ∷ 93 ∷ []) end)

pub contracts_line-is : (end value : List ℕ) → body_line end (tag_text (codes "ParContract") value) ≡ (91 ∷ (codes "ParContract" ++ (32 ∷ 34 ∷ []))) ++ (value ++ (34 ∷ 93 ∷ end))
unfolding tag_text
contracts_line-is end value = ap (λ (l : List ℕ). (91 ∷ (codes "ParContract" ++ (32 ∷ 34 ∷ []))) ++ l) (append_assoc value (34 ∷ 93 ∷ []) end)

-- what is written of each par
abbrev pub written : List ℕ → Option BoardPar → List ℕ
written end None = []
written end (Some (Known dealer vulnerable score contracts)) = body_line end (tag_text (codes "OptimumScore") (score_text score)) ++ body_line end (tag_text (codes "ParContract") (contracts_text contracts.items))
written end (Some NoDealer) = codes "; par unknown: no dealer" ++ end
written end (Some NoVulnerability) = codes "; par unknown: no vulnerability" ++ end

pub par_text-is : (end : List ℕ) (par : Option BoardPar) → par_text end par ≡ written end par
unfolding par_text
par_text-is end None = refl
par_text-is end (Some (Known dealer vulnerable score contracts)) = ap (λ (l : List ℕ). body_line end (tag_text (codes "OptimumScore") (score_text score)) ++ l) (append-nil (body_line end (tag_text (codes "ParContract") (contracts_text contracts.items))))
par_text-is end (Some NoDealer) = append-nil (codes "; par unknown: no dealer" ++ end)
par_text-is end (Some NoVulnerability) = append-nil (codes "; par unknown: no vulnerability" ++ end)

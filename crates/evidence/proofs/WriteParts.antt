-- A text, and the pieces in which it is written.
use Rattle.std.proofs.Common.{◌≡◌, List, ℕ, [], ◌∷◌, ◌++◌, ◌+◌, ◌<◌, length, drop, get_or, ap, sym, ◌∙◌, append_assoc}
use Rattle.std.proofs.lemmas.List.{drop_more}
use Rattle.std.specs.Fmt.{decimal}
use Rattle.cards.specs.declared.suits.Trump.{Trump}
use Rattle.cards.specs.Seats.{seat_letter}
use Rattle.cards.specs.Deal.{Deal}
use Rattle.certificate_graph.specs.Texts.{trump_text}
use Rattle.certificate_graph.specs.declared.bundles.Claim.{Claim}
use Rattle.evidence.specs.SectionTexts.{root_text, claim_line, claim_lines, title, deal_line, count_line, head_text}
use Rattle.evidence.proofs.HeadLemmas.{claim-cut}

pub claim-parts : (claim : Claim) →
    seat_letter claim.declarer ++ ((32 ∷ []) ++ ((decimal claim.k ++ (32 ∷ [])) ++
    ((root_text claim.declarer_root ++ (32 ∷ [])) ++ (root_text claim.defenders_root ++ (10 ∷ [])))))
    ≡ claim_line claim []
claim-parts claim = simp append_assoc

-- the lines of claims from one place on
pub claims-from : (claims : List Claim) (i : ℕ) (d : Claim) → i < length claims → claim_line (get_or claims i d) [] ++ claim_lines (drop (i + 1) claims) [] ≡ claim_lines (drop i claims) []
claims-from claims i d within =
    sym (ap (λ (list : List Claim). claim_lines list []) (drop_more claims i d within)
    ∙ claim-cut (get_or claims i d) [] (claim_lines (drop (i + 1) claims) []))

pub head-parts : (deal : Deal) (t : Trump) (claims : List Claim) →
    (title ++ deal_line deal []) ++ (trump_text t [] ++ (count_line (length claims) [] ++ claim_lines claims []))
    ≡ head_text deal t claims []
head-parts deal t claims = simp append_assoc

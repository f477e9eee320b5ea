-- A text, and the pieces in which it is written.
use Rattle.std.proofs.Common.{◌≡◌, List, ℕ, ◌-◌, ◌≤◌, [], ◌∷◌, ◌++◌, length, take, drop, get_or, codes, Option, None, Some, refl, sym, ◌∙◌, ap, arith, append_assoc}
use Rattle.std.specs.Fmt.{decimal}
use Rattle.std.proofs.lemmas.List.{take_all}
use Rattle.cards.specs.declared.pack.Card.{Card}
use Rattle.play_rules.specs.Position.{Position}
use Rattle.cards.specs.CardTexts.{cards_text}
use Rattle.certificate_graph.specs.declared.nodes.Node.{Node}
use Rattle.certificate_graph.specs.declared.card_claims.CardClaim.{CardClaim}
use Rattle.certificate_graph.specs.Texts.{trump_text}
use Rattle.certificate_graph.proofs.TextParts.{node-cut}
use Rattle.evidence.specs.SectionTexts.{deal_line, count_line, graphs_text}
use Rattle.card_evidence.specs.Sections.{CardSectionShape}
use Rattle.card_evidence.specs.SectionTexts.{title, leader_line, played_line, trick_text, claim_line, begun_text, claim_text, claims_text, counted_text, card_section_text}

pub played-parts : (cards : List Card) → codes "played " ++ (decimal (length cards) ++ (cards_text cards ++ (10 ∷ []))) ≡ played_line cards []
played-parts cards = ap (λ (t : List ℕ). codes "played " ++ t) (sym (append_assoc (decimal (length cards)) (cards_text cards) (10 ∷ [])))

pub trick-parts : (position : Position) →
    (title ++ deal_line position.opening.deal []) ++ (trump_text position.opening.trump [] ++
    (leader_line position.opening.leader [] ++ played_line position.history []))
    ≡ trick_text position []
trick-parts position = simp append_assoc

-- ---- a form before a text is the form, and then the text
pub trick-cut : (position : Position) (rest : List ℕ) → trick_text position rest ≡ trick_text position [] ++ rest
trick-cut position rest = simp append_assoc

claim_line-cut : (card : Card) (tricks : ℕ) (front rest : List ℕ) → claim_line card tricks (front ++ rest) ≡ claim_line card tricks front ++ rest
claim_line-cut card tricks front rest = simp append_assoc

begun-cut : (begun : Option Node) (front rest : List ℕ) → begun_text begun (front ++ rest) ≡ begun_text begun front ++ rest
begun-cut None front rest = refl
begun-cut (Some node) front rest = node-cut node front rest

pub claim-cut : (claim : CardClaim) (front rest : List ℕ) → claim_text claim (front ++ rest) ≡ claim_text claim front ++ rest
claim-cut claim front rest =
    ap (λ (t : List ℕ). claim_line claim.card claim.tricks (begun_text claim.player t)) (begun-cut claim.others front rest)
    ∙ (ap (claim_line claim.card claim.tricks) (begun-cut claim.player (begun_text claim.others front) rest)
    ∙ claim_line-cut claim.card claim.tricks (begun_text claim.player (begun_text claim.others front)) rest)

pub claim-parts : (claim : CardClaim) →
    claim_line claim.card claim.tricks [] ++ (begun_text claim.player [] ++ begun_text claim.others [])
    ≡ claim_text claim []
claim-parts claim =
    sym (ap (claim_line claim.card claim.tricks) (begun-cut claim.player [] (begun_text claim.others []))
    ∙ claim_line-cut claim.card claim.tricks [] (begun_text claim.player [] ++ begun_text claim.others []))

pub claims-cut : (claims : List CardClaim) (front rest : List ℕ) → claims_text claims (front ++ rest) ≡ claims_text claims front ++ rest
claims-cut [] front rest = refl
claims-cut (claim ∷ more) front rest =
    ap (claim_text claim) (claims-cut more front rest) ∙ claim-cut claim (claims_text more front) rest

-- the first claim, and the others
pub claims-first : (claims : List CardClaim) (first : CardClaim) → 1 ≤ length claims → first ≡ get_or claims 0 first → claim_text first [] ++ claims_text (take (length claims - 1) (drop 1 claims)) [] ≡ claims_text claims []
claims-first [] first some is = absurd (omega arith)
claims-first (claim ∷ more) first some is =
    ap (λ (list : List CardClaim). claim_text first [] ++ claims_text list []) (take_all (length (claim ∷ more) - 1) more (omega arith))
    ∙ (ap (λ c. claim_text c [] ++ claims_text more []) is ∙ sym (claim-cut claim [] (claims_text more [])))

count-cut : (n : ℕ) (rest : List ℕ) → count_line n rest ≡ count_line n [] ++ rest
count-cut n rest = simp append_assoc

pub counted-parts : (claims : List CardClaim) → count_line (length claims) [] ++ claims_text claims [] ≡ counted_text claims []
counted-parts claims = sym (count-cut (length claims) (claims_text claims []))

counted-cut : (claims : List CardClaim) (rest : List ℕ) → counted_text claims rest ≡ counted_text claims [] ++ rest
counted-cut claims rest =
    ap (count_line (length claims)) (claims-cut claims [] rest)
    ∙ (count-cut (length claims) (claims_text claims [] ++ rest)
    ∙ (sym (append_assoc (count_line (length claims) []) (claims_text claims []) rest) ∙ ap (λ (t : List ℕ). t ++ rest) (counted-parts claims)))

pub section-parts : (section : CardSectionShape) →
    trick_text section.position [] ++ (counted_text section.claims [] ++ graphs_text section.ns section.ew)
    ≡ card_section_text section
section-parts section =
    let graphs = graphs_text section.ns section.ew in
    ap (λ (t : List ℕ). trick_text section.position [] ++ t) (sym (counted-cut section.claims graphs))
    ∙ sym (trick-cut section.position (counted_text section.claims graphs))

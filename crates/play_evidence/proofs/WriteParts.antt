-- A text, and the pieces in which it is written.
use Rattle.std.proofs.Common.{◌≡◌, ℕ, ◌-◌, ◌≤◌, List, [], ◌∷◌, ◌++◌, length, take, drop, get_or, codes, Option, None, Some, refl, sym, ◌∙◌, ap, arith, append_assoc}
use Rattle.std.specs.Fmt.{decimal}
use Rattle.std.proofs.lemmas.List.{take_all}
use Rattle.certificate_graph.specs.declared.nodes.Node.{Node}
use Rattle.certificate_graph.specs.Texts.{trump_text, node_text, nodes_text}
use Rattle.certificate_graph.proofs.TextParts.{node-cut}
use Rattle.evidence.specs.SectionTexts.{count_line, root_text, graphs_text}
use Rattle.card_evidence.specs.SectionTexts.{line_text, leader_line}
use Rattle.play_claims.specs.declared.claims.PlayClaim.{PlayClaim}
use Rattle.play_evidence.specs.Sections.{NodesShape, PlaySectionShape}
use Rattle.play_evidence.specs.SectionTexts.{titled_deal, played_line, numbers_line, claim_text, claims_text, counted_text, begun_text, play_text, bundle_text}

-- ---- the play
pub play-parts : (section : PlaySectionShape) →
    titled_deal section.deal [] ++ (trump_text section.trump [] ++ (leader_line section.leader [] ++ played_line section.cards []))
    ≡ play_text section []
play-parts section = simp append_assoc

play-cut : (section : PlaySectionShape) (rest : List ℕ) → play_text section rest ≡ play_text section [] ++ rest
play-cut section rest = simp append_assoc

pub section-parts : (section : PlaySectionShape) (rest : List ℕ) → play_text section [] ++ rest ≡ play_text section rest
section-parts section rest = sym (play-cut section rest)

-- ---- claims
pub numbers-parts : (claim : PlayClaim) →
    (decimal claim.tricks ++ (32 ∷ [])) ++ ((root_text claim.ns ++ (32 ∷ [])) ++ (root_text claim.ew ++ (10 ∷ [])))
    ≡ numbers_line claim []
numbers-parts claim = simp append_assoc

claim-cut : (claim : Option PlayClaim) (front rest : List ℕ) → claim_text claim (front ++ rest) ≡ claim_text claim front ++ rest
claim-cut None front rest = refl
claim-cut (Some claim) front rest = simp append_assoc

claims-cut : (claims : List (Option PlayClaim)) (front rest : List ℕ) → claims_text claims (front ++ rest) ≡ claims_text claims front ++ rest
claims-cut [] front rest = refl
claims-cut (claim ∷ more) front rest =
    ap (claim_text claim) (claims-cut more front rest) ∙ claim-cut claim (claims_text more front) rest

-- the first claim, and the others
pub claims-first : (claims : List (Option PlayClaim)) → 1 ≤ length claims → claim_text (get_or claims 0 None) [] ++ claims_text (take (length claims - 1) (drop 1 claims)) [] ≡ claims_text claims []
claims-first [] some = absurd (omega arith)
claims-first (claim ∷ more) some =
    ap (λ (list : List (Option PlayClaim)). claim_text claim [] ++ claims_text list []) (take_all (length (claim ∷ more) - 1) more (omega arith))
    ∙ sym (claim-cut claim [] (claims_text more []))

count-cut : (n : ℕ) (rest : List ℕ) → count_line n rest ≡ count_line n [] ++ rest
count-cut n rest = simp append_assoc

pub counted-parts : (claims : List (Option PlayClaim)) → count_line (length claims) [] ++ claims_text claims [] ≡ counted_text claims []
counted-parts claims = sym (count-cut (length claims) (claims_text claims []))

counted-cut : (claims : List (Option PlayClaim)) (rest : List ℕ) → counted_text claims rest ≡ counted_text claims [] ++ rest
counted-cut claims rest =
    ap (count_line (length claims)) (claims-cut claims [] rest)
    ∙ (count-cut (length claims) (claims_text claims [] ++ rest)
    ∙ (sym (append_assoc (count_line (length claims) []) (claims_text claims []) rest) ∙ ap (λ (t : List ℕ). t ++ rest) (counted-parts claims)))

-- ---- begun nodes
nodes-cut : (nodes : List Node) (front rest : List ℕ) → nodes_text nodes (front ++ rest) ≡ nodes_text nodes front ++ rest
nodes-cut [] front rest = refl
nodes-cut (node ∷ more) front rest = ap (node_text node) (nodes-cut more front rest) ∙ node-cut node (nodes_text more front) rest

-- the first node, and the others
pub nodes-first : (nodes : List Node) (first : Node) → 1 ≤ length nodes → first ≡ get_or nodes 0 first → node_text first [] ++ nodes_text (take (length nodes - 1) (drop 1 nodes)) [] ≡ nodes_text nodes []
nodes-first [] first some is = absurd (omega arith)
nodes-first (node ∷ more) first some is =
    ap (λ (list : List Node). node_text first [] ++ nodes_text list []) (take_all (length (node ∷ more) - 1) more (omega arith))
    ∙ (ap (λ n. node_text n [] ++ nodes_text more []) is ∙ sym (node-cut node [] (nodes_text more [])))

begun_line-cut : (n : ℕ) (front rest : List ℕ) → line_text (codes "begun ") (decimal n) (front ++ rest) ≡ line_text (codes "begun ") (decimal n) front ++ rest
begun_line-cut n front rest = simp append_assoc

begun-cut : (nodes : List Node) (rest : List ℕ) → begun_text nodes rest ≡ begun_text nodes [] ++ rest
begun-cut nodes rest =
    ap (line_text (codes "begun ") (decimal (length nodes))) (nodes-cut nodes [] rest)
    ∙ begun_line-cut (length nodes) (nodes_text nodes []) rest

pub begun-parts : (nodes : List Node) → codes "begun " ++ ((decimal (length nodes) ++ (10 ∷ [])) ++ nodes_text nodes []) ≡ begun_text nodes []
begun-parts nodes = ap (λ (t : List ℕ). codes "begun " ++ t) (append_assoc (decimal (length nodes)) (10 ∷ []) (nodes_text nodes []))

-- ---- the bundle
pub bundle-parts : (claims : List (Option PlayClaim)) (ns ew : NodesShape) →
    counted_text claims [] ++ (begun_text ns.begun [] ++ (begun_text ew.begun [] ++ graphs_text ns.graph ew.graph))
    ≡ bundle_text claims ns ew
bundle-parts claims ns ew =
    let graphs = graphs_text ns.graph ew.graph in
    ap (λ (t : List ℕ). counted_text claims [] ++ (begun_text ns.begun [] ++ t)) (sym (begun-cut ew.begun graphs))
    ∙ (ap (λ (t : List ℕ). counted_text claims [] ++ t) (sym (begun-cut ns.begun (begun_text ew.begun graphs)))
    ∙ sym (counted-cut claims (begun_text ns.begun (begun_text ew.begun graphs))))

-- The text of a section. Each definition says what one form writes before the rest of the text: a line feed is 10, a
-- blank 32, `-` 45.
use Rattle.std.specs.Prelude.{◌≡◌, ℕ, List, [], ◌∷◌, ◌++◌, length, codes, Option, None, Some}
use Rattle.std.specs.Fmt.{decimal}
use Rattle.cards.specs.declared.pack.Card.{Card}
use Rattle.cards.specs.CardTexts.{cards_text}
use Rattle.cards.specs.Deal.{Deal}
use Rattle.certificate_graph.specs.declared.nodes.Node.{Node}
use Rattle.certificate_graph.specs.Texts.{trump_text, nodes_text}
use Rattle.evidence.specs.SectionTexts.{deal_line, count_line, root_text, graphs_text}
use Rattle.card_evidence.specs.SectionTexts.{line_text, leader_line}
use Rattle.play_claims.specs.declared.claims.PlayClaim.{PlayClaim}
use Rattle.play_evidence.specs.Sections.{NodesShape, PlaySectionShape, IsPlaySection}
use Rattle.cards.specs.Bytes as ascii

-- ---- the play
-- the first line, which names the form, and the line of the deal
abbrev pub title : List ℕ
title = codes "DPP 1\n"

abbrev pub titled_deal : Deal → List ℕ → List ℕ
titled_deal deal rest = title ++ deal_line deal rest

-- the cards in their order, each after a blank
abbrev pub played_line : List Card → List ℕ → List ℕ
played_line cards rest = line_text (codes "played") (cards_text cards) rest

-- ---- claims
-- the tricks of North and South, their node and that of East and West, with a blank between two
abbrev pub numbers_line : PlayClaim → List ℕ → List ℕ
numbers_line claim rest =
    decimal claim.tricks ++ (ascii.blank ∷ (root_text claim.ns ++ (ascii.blank ∷ (root_text claim.ew
    ++ (ascii.line_feed ∷ rest)))))

-- that, or a line `-` if nothing is claimed
abbrev pub claim_text : Option PlayClaim → List ℕ → List ℕ
claim_text None rest = codes "-\n" ++ rest
claim_text (Some claim) rest = numbers_line claim rest

abbrev pub claims_text : List (Option PlayClaim) → List ℕ → List ℕ
claims_text [] rest = rest
claims_text (claim ∷ more) rest = claim_text claim (claims_text more rest)

-- their number, and the claims
abbrev pub counted_text : List (Option PlayClaim) → List ℕ → List ℕ
counted_text claims rest = count_line (length claims) (claims_text claims rest)

-- ---- begun nodes
-- their number, and their lines
abbrev pub begun_text : List Node → List ℕ → List ℕ
begun_text nodes rest = line_text (codes "begun ") (decimal (length nodes)) (nodes_text nodes rest)

-- ---- the whole
-- the title, the deal, the trump, the leader and the cards played
abbrev pub play_text : PlaySectionShape → List ℕ → List ℕ
play_text section rest =
    titled_deal section.deal (trump_text section.trump (leader_line section.leader (played_line section.cards rest)))

-- the claims, the begun nodes of both sides, North's and South's graph, and East's and West's
abbrev pub bundle_text : List (Option PlayClaim) → NodesShape → NodesShape → List ℕ
bundle_text claims ns ew =
    counted_text claims (begun_text ns.begun (begun_text ew.begun (graphs_text ns.graph ew.graph)))

abbrev pub play_section_text : PlaySectionShape → List ℕ
play_section_text section = play_text section (bundle_text section.claims section.ns section.ew)

-- the text is that of the section
abbrev pub IsTextOf : List ℕ → PlaySectionShape → Type 0
IsTextOf text section = IsPlaySection section × (text ≡ play_section_text section)

-- The text of a section (docs/FORMATS.md). Each definition says what one form writes before the rest of the text: a
-- line feed is 10, a blank 32, `-` 45.
use Rattle.std.specs.Prelude.{◌≡◌, ℕ, List, [], ◌∷◌, ◌++◌, length, codes, Option, None, Some}
use Rattle.std.proofs.Common.{Vec, Global}
use Rattle.std.specs.Fmt.{decimal}
use Rattle.cards.specs.declared.suits.Trump.{Trump}
use Rattle.cards.specs.Seats.{seat_letter}
use Rattle.cards.specs.Deal.{Deal}
use Rattle.certificate_graph.specs.Graphs.{GraphShape}
use Rattle.certificate_graph.specs.Texts.{trump_text, graph_text}
use Rattle.pbn_deals.specs.DealText.{deal_text}
use Rattle.certificate_graph.specs.declared.bundles.Claim.{Claim}
use Rattle.evidence.specs.Sections.{SectionShape, IsSection}
use Rattle.cards.specs.Bytes as ascii

-- the first line, which tells the form
abbrev pub title : List ℕ
title = codes "DDE 1" ++ (ascii.line_feed ∷ [])

abbrev pub deal_line : Deal → List ℕ → List ℕ
deal_line deal rest = codes "deal " ++ (deal_text deal ++ (ascii.line_feed ∷ rest))

-- how many claims there are
abbrev pub count_line : ℕ → List ℕ → List ℕ
count_line count rest = codes "claims " ++ (decimal count ++ (ascii.line_feed ∷ rest))

-- a root, or `-` where there is none
abbrev pub root_text : Option ℕ → List ℕ
root_text None = codes "-"
root_text (Some number) = decimal number

-- a claim: its declarer, its tricks, the root in the graph of declarer's side and that in the graph of the defenders,
-- with a blank between two
abbrev pub claim_line : Claim → List ℕ → List ℕ
claim_line claim rest =
    seat_letter claim.declarer ++ (ascii.blank ∷ (decimal claim.k ++ (ascii.blank ∷
    (root_text claim.declarer_root ++ (ascii.blank ∷ (root_text claim.defenders_root ++ (ascii.line_feed ∷ rest)))))))

abbrev pub claim_lines : List Claim → List ℕ → List ℕ
claim_lines [] rest = rest
claim_lines (claim ∷ more) rest = claim_line claim (claim_lines more rest)

-- the lines before the graphs
abbrev pub head_text : Deal → Trump → List Claim → List ℕ → List ℕ
head_text deal trump claims rest =
    title ++ deal_line deal (trump_text trump (count_line (length claims) (claim_lines claims rest)))

-- the texts of two graphs, with an empty line between them
abbrev pub graphs_text : GraphShape → GraphShape → List ℕ
graphs_text ns ew = graph_text ns ++ (ascii.line_feed ∷ graph_text ew)

-- a section: its title, its deal, its denomination, its claims, North's and South's graph, and East's and West's
abbrev pub section_text : SectionShape → List ℕ
section_text section = head_text section.deal section.trump section.claims (graphs_text section.ns section.ew)

-- the text is that of the section
abbrev pub IsTextOf : List ℕ → SectionShape → Type 0
IsTextOf text section = IsSection section × (text ≡ section_text section)

-- the text is that of the section, or there is none, since these parts are no section
abbrev pub IsTextIfAny : SectionShape → Option (Vec ℕ Global) → Type 0
IsTextIfAny section None = IsSection section → ⊥
IsTextIfAny section (Some text) = IsTextOf text.items section

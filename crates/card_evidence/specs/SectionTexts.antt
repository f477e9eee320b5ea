-- The text of a section. Each definition says what one form writes before the rest of the text: a line feed is 10, a
-- blank 32, `-` 45.
use Rattle.std.specs.Prelude.{◌≡◌, ℕ, List, [], ◌∷◌, ◌++◌, length, codes, Option, None, Some}
use Rattle.std.specs.Fmt.{decimal}
use Rattle.cards.specs.declared.seats.Seat.{Seat}
use Rattle.cards.specs.declared.pack.Card.{Card}
use Rattle.cards.specs.Seats.{seat_letter}
use Rattle.play_rules.specs.Position.{Position}
use Rattle.cards.specs.CardTexts.{card_text, cards_text}
use Rattle.certificate_graph.specs.declared.nodes.Node.{Node}
use Rattle.certificate_graph.specs.declared.card_claims.CardClaim.{CardClaim}
use Rattle.certificate_graph.specs.Texts.{trump_text, node_text}
use Rattle.evidence.specs.SectionTexts.{deal_line, count_line, graphs_text}
use Rattle.card_evidence.specs.Sections.{CardSectionShape, IsCardSection}
use Rattle.cards.specs.Bytes as ascii

-- a name, a word and the end of a line
abbrev pub line_text : List ℕ → List ℕ → List ℕ → List ℕ
line_text name word rest = name ++ (word ++ (ascii.line_feed ∷ rest))

-- ---- the trick in progress
-- the first line, which names the form
abbrev pub title : List ℕ
title = codes "DDP 1\n"

abbrev pub leader_line : Seat → List ℕ → List ℕ
leader_line leader rest = line_text (codes "leader ") (seat_letter leader) rest

-- how many cards were played, and these cards, each after a blank
abbrev pub played_word : List Card → List ℕ
played_word cards = decimal (length cards) ++ cards_text cards

abbrev pub played_line : List Card → List ℕ → List ℕ
played_line cards rest = line_text (codes "played ") (played_word cards) rest

-- the title, the deal, the trump, the leader and the cards played
abbrev pub trick_text : Position → List ℕ → List ℕ
trick_text position rest =
    title ++ deal_line position.opening.deal (trump_text position.opening.trump
    (leader_line position.opening.leader (played_line position.history rest)))

-- ---- claims
-- a card and its tricks, with a blank between them
abbrev pub claim_line : Card → ℕ → List ℕ → List ℕ
claim_line card tricks rest = card_text card ++ line_text (codes " ") (decimal tricks) rest

-- a begun node as the line of a node, or a line `-` if there is none
abbrev pub begun_text : Option Node → List ℕ → List ℕ
begun_text None rest = codes "-\n" ++ rest
begun_text (Some node) rest = node_text node rest

-- a claim: its line, and the begun nodes of the player's side and of the other side
abbrev pub claim_text : CardClaim → List ℕ → List ℕ
claim_text claim rest = claim_line claim.card claim.tricks (begun_text claim.player (begun_text claim.others rest))

abbrev pub claims_text : List CardClaim → List ℕ → List ℕ
claims_text [] rest = rest
claims_text (claim ∷ more) rest = claim_text claim (claims_text more rest)

-- their number, and the claims
abbrev pub counted_text : List CardClaim → List ℕ → List ℕ
counted_text claims rest = count_line (length claims) (claims_text claims rest)

-- ---- the whole
-- a section: its trick in progress, its claims, North's and South's graph, and East's and West's
abbrev pub card_section_text : CardSectionShape → List ℕ
card_section_text section =
    trick_text section.position (counted_text section.claims (graphs_text section.ns section.ew))

-- the text is that of the section
abbrev pub IsTextOf : List ℕ → CardSectionShape → Type 0
IsTextOf text section = IsCardSection section × (text ≡ card_section_text section)

-- A text is that of one section at most.
use Rattle.std.proofs.Common.{◌≡◌, ℕ, List, Option, None, Some, sym, ◌∙◌, ap, subst}
use Rattle.cards.specs.declared.pack.Card.{Card}
use Rattle.cards.specs.declared.seats.Seat.{Seat}
use Rattle.cards.specs.declared.suits.Trump.{Trump}
use Rattle.cards.specs.Deal.{Deal}
use Rattle.certificate_graph.specs.Graphs.{GraphShape}
use Rattle.certificate_graph.specs.declared.nodes.Node.{Node}
use Rattle.play_claims.specs.declared.claims.PlayClaim.{PlayClaim}
use Rattle.play_claims.specs.declared.claims.PlayBundle.{PlayBundle}
use Rattle.play_evidence.specs.Sections.{NodesShape, PlaySectionShape, IsPlaySection, MakesPlaySection, shape_of}
use Rattle.play_evidence.specs.SectionTexts.{IsTextOf}
use Rattle.play_evidence.specs.Readings.{IsPlayOf, AreBundleOf, FindsSection}
use Rattle.play_evidence.specs.declared.play_finding.FoundPlay.{FoundPlay}

abbrev pub nodes_with : GraphShape → List Node → NodesShape
nodes_with graph begun = record { graph = graph; begun = begun }

pub same_nodes : (a : GraphShape) (x : List Node) (side : NodesShape) → a ≡ side.graph → x ≡ side.begun → nodes_with a x ≡ side
same_nodes a x side p q = ap (λ g. nodes_with g x) p ∙ ap (λ b. nodes_with side.graph b) q

abbrev section_of : Deal → Seat → Trump → List Card → List (Option PlayClaim) → NodesShape → NodesShape → PlaySectionShape
section_of deal leader trump cards claims ns ew =
    record { deal = deal; leader = leader; trump = trump; cards = cards; claims = claims; ns = ns; ew = ew }

pub same_parts : (a b : PlaySectionShape) → a.deal ≡ b.deal → a.leader ≡ b.leader → a.trump ≡ b.trump → a.cards ≡ b.cards → a.claims ≡ b.claims → a.ns ≡ b.ns → a.ew ≡ b.ew → a ≡ b
same_parts a b p q r s t u v =
    ap (λ x. section_of x a.leader a.trump a.cards a.claims a.ns a.ew) p
    ∙ (ap (λ x. section_of b.deal x a.trump a.cards a.claims a.ns a.ew) q
    ∙ (ap (λ x. section_of b.deal b.leader x a.cards a.claims a.ns a.ew) r
    ∙ (ap (λ x. section_of b.deal b.leader b.trump x a.claims a.ns a.ew) s
    ∙ (ap (λ x. section_of b.deal b.leader b.trump b.cards x a.ns a.ew) t
    ∙ (ap (λ x. section_of b.deal b.leader b.trump b.cards b.claims x a.ew) u
    ∙ ap (λ x. section_of b.deal b.leader b.trump b.cards b.claims b.ns x) v)))))

pub same_section : (section : PlaySectionShape) (play : FoundPlay) (bundle : PlayBundle) → IsPlayOf section play → AreBundleOf section bundle
    → shape_of play.layout play.leader play.trump play.cards.items bundle ≡ section
same_section section play bundle of are =
    same_parts (shape_of play.layout play.leader play.trump play.cards.items bundle) section of.deal of.leader of.trump of.cards are.claims are.ns are.ew

-- the section that is made of the parts that were found
pub section_found : (text : List ℕ) (parts : PlaySectionShape) (r : Option PlaySectionShape) → MakesPlaySection parts r
    → ((section : PlaySectionShape) → IsTextOf text section → parts ≡ section) → FindsSection text r
section_found text parts None none same = λ section of. none (subst IsPlaySection (sym (same section of)) of.0)
section_found text parts (Some found) made same = λ section of. made.0 ∙ same section of

-- The parts of a text to which sections are added.
use Rattle.std.proofs.Common.{◌≡◌, ℕ, ◌+◌, ◌-◌, ◌<◌, List, [], ◌∷◌, ◌++◌, length, get_or, inr, refl, sym, ◌∙◌, ap, subst, arith}
use Rattle.std.proofs.lemmas.List.{length-append, get_or-append-add, append-nil}
use Rattle.certificate_graph.specs.Texts.{graph_text}
use Rattle.evidence.specs.Sections.{SectionShape, IsSection}
use Rattle.evidence.specs.SectionTexts.{section_text, head_text, graphs_text}
use Rattle.evidence.specs.Parts.{AreParts}
use Rattle.evidence_laws.specs.Parts.{EndsLine, BeginsTitle}
use Rattle.evidence.specs.declared.parts.Part.TheVariants.{Found}
use Rattle.evidence.proofs.GraphLines.{graph_front, ends_line}
use Rattle.evidence.proofs.SectionLemmas.{head-cut}
use Rattle.evidence_laws.proofs.TitleLemmas.{sections_are_parts, parts_are_joined}
use Rattle.evidence_solvers.specs.Kept.{AreShort, texts_of}
use Rattle.evidence_laws.specs.AddedLaws.{found_of, AddedSectionsAreParts}

-- ---- the last byte of a section
-- a text that is not empty, and whose last byte is a line feed
abbrev LastEnds : List ℕ → Type 0
LastEnds text = (0 < length text) × (get_or text (length text - 1) 0 ≡ 10)

ends_behind : (front rest : List ℕ) → LastEnds rest → LastEnds (front ++ rest)
ends_behind front rest (some, ends) =
    let all = length-append front rest in
    let last : length (front ++ rest) - 1 ≡ length front + (length rest - 1) = omega (arith, all) in
    (omega (arith, all), ap (λ i. get_or (front ++ rest) i 0) last ∙ (get_or-append-add front rest (length rest - 1) 0 ∙ ends))

section_ends : (section : SectionShape) → IsSection section → LastEnds (section_text section)
section_ends section is =
    let lines = graph_front section.ew is.ew_is.graph in
    let graph : LastEnds (graph_text section.ew) = (lines.1, ends_line (graph_text section.ew) lines.0 lines.1) in
    let graphs : LastEnds (graphs_text section.ns section.ew) = ends_behind (graph_text section.ns) (10 ∷ graph_text section.ew) (ends_behind (10 ∷ []) (graph_text section.ew) graph) in
    let cut = head-cut section.deal section.trump section.claims (graphs_text section.ns section.ew) in
    subst LastEnds (sym cut) (ends_behind (head_text section.deal section.trump section.claims []) (graphs_text section.ns section.ew) graphs)

section_ends_line : (section : SectionShape) → IsSection section → EndsLine (section_text section)
section_ends_line section is = inr (section_ends section is).1

-- ---- the first bytes
begins : (section : SectionShape) (more : List SectionShape) → BeginsTitle (texts_of (section ∷ more))
begins section more = (_, refl)

-- ---- sections one after the other
found_parts : (at : ℕ) (sections : List SectionShape) → AreShort sections → AreParts at (texts_of sections) (found_of sections)
found_parts at [] short = refl
found_parts at (section ∷ []) (short, none) =
    subst (λ t. AreParts at t (Found section ∷ [])) (sym (append-nil (section_text section))) (sections_are_parts at section short.0 short.1)
found_parts at (section ∷ (next ∷ more)) (short, others) =
    parts_are_joined at (section_text section) (texts_of (next ∷ more)) (Found section ∷ []) (found_of (next ∷ more)) (section_ends_line section short.0) (begins next more)
    (sections_are_parts at section short.0 short.1) (found_parts (at + length (section_text section)) (next ∷ more) others)

pub added_sections_are_parts : AddedSectionsAreParts
added_sections_are_parts text parts [] ends are short =
    subst (λ t. AreParts 0 t (parts ++ [])) (sym (append-nil text)) (subst (λ ps. AreParts 0 text ps) (sym (append-nil parts)) are)
added_sections_are_parts text parts (section ∷ more) ends are short =
    parts_are_joined 0 text (texts_of (section ∷ more)) parts (found_of (section ∷ more)) ends (begins section more) are (found_parts (0 + length text) (section ∷ more) short)

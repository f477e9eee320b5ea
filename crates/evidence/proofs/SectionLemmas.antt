-- A text is that of one section at most.
use Rattle.std.proofs.Common.{◌≡◌, ℕ, ◌≤◌, List, [], ◌∷◌, ◌++◌, length, refl, sym, ◌∙◌, ap, arith, append_assoc}
use Rattle.std.proofs.lemmas.List.{append_cancel_left}
use Rattle.cards.specs.declared.seats.Seat.TheVariants.{North, East, South, West}
use Rattle.cards.specs.declared.suits.Suit.TheVariants.{Spades, Hearts, Diamonds, Clubs}
use Rattle.cards.specs.declared.suits.Trump.{Trump}
use Rattle.cards.specs.declared.suits.Trump.TheVariants as trump
use Rattle.cards.specs.Pack.{trump_letters}
use Rattle.cards.specs.Deal.{Deal}
use Rattle.certificate_graph.specs.Graphs.{GraphShape, IsGraph}
use Rattle.certificate_graph.specs.Texts.{trump_text}
use Rattle.pbn_deals.specs.Reading.{Lacks}
use Rattle.pbn_deals.specs.DealText.{deal_text}
use Rattle.pbn_deals.proofs.DealWords.{deal-one_line}
use Rattle.certificate_graph.proofs.OneSpelling.{heads, one_suit}
use Rattle.certificate_graph.specs.declared.bundles.Claim.{Claim}
use Rattle.evidence.specs.Sections.{SectionShape, IsSection}
use Rattle.evidence.specs.SectionTexts.{title, head_text, deal_line, count_line, claim_line, claim_lines, graphs_text, section_text}
use Rattle.evidence.specs.declared.head_reading.Head.{Head}
use Rattle.evidence.specs.Readings.{NamesNoSeat, IsHeadOf}
use Rattle.evidence.proofs.CutLemmas.{one_front}
use Rattle.evidence.proofs.WordLemmas.{trump-lacks}
use Rattle.evidence.proofs.GraphLines.{one_graphs}
use Rattle.evidence.proofs.HeadLemmas.{claim-cut, count_front, count-cut, count-lacks, length-claims}

-- ---- the parts of a section's text
abbrev pub from_claims : SectionShape → List ℕ
from_claims section = claim_lines section.claims (graphs_text section.ns section.ew)

abbrev pub from_count : SectionShape → List ℕ
from_count section = count_line (length section.claims) (from_claims section)

abbrev pub from_trump : SectionShape → List ℕ
from_trump section = trump_text section.trump (from_count section)

pub few_claims : (section : SectionShape) → IsSection section → length section.claims ≤ 4
few_claims section is = let few = length-claims 0 section.claims (omega arith) is.claims_are in omega arith

-- what stands behind each line, of the text of a section
module _ (section : SectionShape) (is : IsSection section) where
  pub deal_word : (word rest : List ℕ) → Lacks 10 word → word ++ (10 ∷ rest) ≡ deal_text section.deal ++ (10 ∷ from_trump section) → (word ≡ deal_text section.deal) × (rest ≡ from_trump section)
  deal_word word rest lacks e = one_front 10 word (deal_text section.deal) rest (from_trump section) lacks (deal-one_line section.deal) e

  pub trump_word : (word rest : List ℕ) → Lacks 10 word → word ++ (10 ∷ rest) ≡ trump_letters section.trump ++ (10 ∷ from_count section) → (word ≡ trump_letters section.trump) × (rest ≡ from_count section)
  trump_word word rest lacks e = one_front 10 word (trump_letters section.trump) rest (from_count section) lacks (trump-lacks section.trump) e

  pub count_word : (word rest : List ℕ) → Lacks 10 word → word ++ (10 ∷ rest) ≡ from_count section → (word ≡ count_front (length section.claims)) × (rest ≡ from_claims section)
  count_word word rest lacks e =
      one_front 10 word (count_front (length section.claims)) rest (from_claims section) lacks
      (count-lacks (length section.claims) (let few = few_claims section is in omega arith)) (e ∙ count-cut (length section.claims) (from_claims section))

-- ---- one section
pub one_trump : (t u : Trump) → trump_letters t ≡ trump_letters u → t ≡ u
one_trump trump.Nt trump.Nt e = refl
one_trump (trump.Suit s) (trump.Suit t) e = ap trump.Suit (one_suit s t [] [] (ap (λ l. l ++ []) e)).0
one_trump trump.Nt (trump.Suit Spades) e = let h = heads 78 83 (84 ∷ []) [] e in absurd (omega arith)
one_trump trump.Nt (trump.Suit Hearts) e = let h = heads 78 72 (84 ∷ []) [] e in absurd (omega arith)
one_trump trump.Nt (trump.Suit Diamonds) e = let h = heads 78 68 (84 ∷ []) [] e in absurd (omega arith)
one_trump trump.Nt (trump.Suit Clubs) e = let h = heads 78 67 (84 ∷ []) [] e in absurd (omega arith)
one_trump (trump.Suit Spades) trump.Nt e = let h = heads 83 78 [] (84 ∷ []) e in absurd (omega arith)
one_trump (trump.Suit Hearts) trump.Nt e = let h = heads 72 78 [] (84 ∷ []) e in absurd (omega arith)
one_trump (trump.Suit Diamonds) trump.Nt e = let h = heads 68 78 [] (84 ∷ []) e in absurd (omega arith)
one_trump (trump.Suit Clubs) trump.Nt e = let h = heads 67 78 [] (84 ∷ []) e in absurd (omega arith)

abbrev pub section_of : Deal → Trump → List Claim → GraphShape → GraphShape → SectionShape
section_of deal t claims ns ew = record { deal = deal; trump = t; claims = claims; ns = ns; ew = ew }

pub same_section : (a b : SectionShape) → a.deal ≡ b.deal → a.trump ≡ b.trump → a.claims ≡ b.claims → a.ns ≡ b.ns → a.ew ≡ b.ew → a ≡ b
same_section a b p q r s t =
    ap (λ x. section_of x a.trump a.claims a.ns a.ew) p
    ∙ (ap (λ x. section_of b.deal x a.claims a.ns a.ew) q
    ∙ (ap (λ x. section_of b.deal b.trump x a.ns a.ew) r
    ∙ (ap (λ x. section_of b.deal b.trump b.claims x a.ew) s
    ∙ ap (λ x. section_of b.deal b.trump b.claims b.ns x) t)))

-- ---- the head before a text
pub claims-cut : (claims : List Claim) (rest : List ℕ) → claim_lines claims rest ≡ claim_lines claims [] ++ rest
claims-cut [] rest = refl
claims-cut (claim ∷ more) rest = ap (claim_line claim) (claims-cut more rest) ∙ claim-cut claim (claim_lines more []) rest

pub head-cut : (deal : Deal) (t : Trump) (claims : List Claim) (rest : List ℕ) → head_text deal t claims rest ≡ head_text deal t claims [] ++ rest
head-cut deal t claims rest = ap (λ l. title ++ deal_line deal (trump_text t (count_line (length claims) l))) (claims-cut claims rest) ∙ simp append_assoc

-- the graphs begin with the letter of no seat
pub no_seat : (ns ew : GraphShape) → NamesNoSeat (graphs_text ns ew)
no_seat ns ew North rest e = let h = heads _ _ _ _ e in absurd (omega arith)
no_seat ns ew East rest e = let h = heads _ _ _ _ e in absurd (omega arith)
no_seat ns ew South rest e = let h = heads _ _ _ _ e in absurd (omega arith)
no_seat ns ew West rest e = let h = heads _ _ _ _ e in absurd (omega arith)

-- ---- what is read of a text
-- the head that was read, as it is written
pub head_lines : (section : SectionShape) (head : Head) (claims : List Claim) (lines : List ℕ) → IsHeadOf head section → claims ≡ head.claims.items → lines ≡ head_text head.layout head.trump claims []
    → section_text section ≡ lines ++ graphs_text section.ns section.ew
head_lines section head claims lines is same e =
    let mine : head_text head.layout head.trump claims [] ≡ head_text section.deal section.trump section.claims [] =
    ap (λ d. head_text d head.trump claims []) is.layout_is
    ∙ (ap (λ t. head_text section.deal t claims []) is.trump_is
    ∙ ap (λ cs. head_text section.deal section.trump cs []) (same ∙ is.claims_are)) in
    head-cut section.deal section.trump section.claims (graphs_text section.ns section.ew)
    ∙ ap (λ t. t ++ graphs_text section.ns section.ew) (sym (e ∙ mine))

-- what stands behind it, where the text is that of a section
pub behind_head : (text lines rest : List ℕ) (section : SectionShape) → text ≡ section_text section → section_text section ≡ lines ++ graphs_text section.ns section.ew → text ≡ lines ++ rest → rest ≡ graphs_text section.ns section.ew
behind_head text lines rest section e parts cut = append_cancel_left lines _ _ (sym cut ∙ (e ∙ parts))

-- the text of what was read
pub text_is : (head : Head) (claims : List Claim) (ns ew : GraphShape) (text lines rest : List ℕ) → claims ≡ head.claims.items → lines ≡ head_text head.layout head.trump claims []
    → text ≡ lines ++ rest → rest ≡ graphs_text ns ew → text ≡ section_text (section_of head.layout head.trump head.claims.items ns ew)
text_is head claims ns ew text lines rest same e cut graphs =
    cut ∙ (ap (λ t. t ++ rest) (e ∙ ap (λ cs. head_text head.layout head.trump cs []) same)
    ∙ (ap (λ t. head_text head.layout head.trump head.claims.items [] ++ t) graphs
    ∙ sym (head-cut head.layout head.trump head.claims.items (graphs_text ns ew))))

-- what was read is the section, where the text is that of one
pub what_was_read : (section : SectionShape) (head : Head) (ns ew : GraphShape) → IsSection section → IsHeadOf head section → IsGraph ns → IsGraph ew → graphs_text ns ew ≡ graphs_text section.ns section.ew
    → section ≡ section_of head.layout head.trump head.claims.items ns ew
what_was_read section head ns ew is of p q e =
    let graphs = one_graphs ns ew section.ns section.ew p q is.ns_is.graph is.ew_is.graph e in
    sym (same_section (section_of head.layout head.trump head.claims.items ns ew) section of.layout_is of.trump_is of.claims_are graphs.0 graphs.1)

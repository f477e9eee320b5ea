-- No line of a section but its first is a title: so a section is one piece, and texts are joined part by part.
use Rattle.std.proofs.Common.{◌≡◌, ◌≢◌, ℕ, zero, suc, ◌+◌, ◌-◌, ◌<◌, ◌≤◌, List, [], ◌∷◌, ◌++◌, length, get_or, codes, inl, inr, ◌⊎◌, refl, sym, ◌∙◌, ap, subst, arith, append_assoc}
use Rattle.std.specs.Fmt.{decimal}
use Rattle.std.proofs.lemmas.Bool.{cases_lt}
use Rattle.std.proofs.lemmas.List.{length-append, get_or_append_left, get_or-append-add, append-nil}
use Rattle.std.proofs.lemmas.List.Elements.{All-cons, All-nil, All-append, All-from_recursion, All-get_or}
use Rattle.memchr.specs.Find.{OccursAt}
use Rattle.cards.specs.declared.seats.Seat.{Seat}
use Rattle.cards.specs.declared.seats.Seat.TheVariants.{North, East, South, West}
use Rattle.cards.specs.Seats.{seat_letter}
use Rattle.cards.specs.Pack.{trump_letters}
use Rattle.certificate_graph.specs.Graphs.{GraphShape, IsGraph}
use Rattle.certificate_graph.specs.Texts.{graph_text, trump_text}
use Rattle.pbn_deals.specs.Reading.{Lacks}
use Rattle.pbn_deals.specs.DealText.{deal_text}
use Rattle.pbn_deals.proofs.DealWords.{deal-one_line}
use Rattle.certificate_graph.specs.declared.bundles.Claim.{Claim}
use Rattle.evidence.specs.Sections.{SectionShape, IsSection, IsClaim}
use Rattle.evidence.specs.SectionTexts.{title, root_text, claim_line, claim_lines, deal_line, count_line, graphs_text, section_text}
use Rattle.evidence.specs.Readings.{AllClaims}
use Rattle.evidence.specs.declared.parts.Part.{Part}
use Rattle.evidence.specs.Pieces.{border}
use Rattle.evidence.specs.Parts.{AreParts}
use Rattle.evidence_laws.specs.Parts.{EndsLine, BeginsTitle, SectionsAreParts, PartsAreJoined}
use Rattle.evidence.proofs.WordLemmas.{decimal-lacks, trump-lacks, root-lacks}
use Rattle.evidence.proofs.GraphLines.{Plain, Lines, no_line, line, IsOther, graph_lines}
use Rattle.evidence.proofs.HeadLemmas.{tricks_fit, count_front, count-cut, count-lacks, AllClaims-from}
use Rattle.evidence.proofs.SectionLemmas.{few_claims}
use Rattle.evidence.proofs.PieceLemmas.{occurs_in_front, occurs_before, occurs_in_back}
use Rattle.evidence_laws.proofs.RowLemmas.{no_piece}
use Rattle.evidence.proofs.TitleLemmas.{seat-no_end}

-- ---- texts of which no line is a title
abbrev pub Untitled : List ℕ → Type 0
Untitled text = (place : ℕ) → OccursAt (10 ∷ text) border place → ⊥

untitled_nil : Untitled []
untitled_nil place o = let fits = o.fits in omega arith

abbrev NoTitle : List ℕ → Type 0
NoTitle text = (get_or text 0 0 ≢ 68) ⊎ (get_or text 2 0 ≢ 69)

not_here : (text : List ℕ) → NoTitle text → OccursAt (10 ∷ text) border 0 → ⊥
not_here text (inl first) o = first (o.reads 1 (omega arith))
not_here text (inr third) o = third (o.reads 3 (omega arith))

line_within : (bytes : List ℕ) (n : ℕ) → Lacks 10 bytes → n < length bytes → get_or bytes n 0 ≢ 10
line_within bytes n lacks h = All-get_or (λ x. x ≢ 10) bytes n 0 h lacks

untitled_line : (bytes rest : List ℕ) → Lacks 10 bytes → NoTitle (bytes ++ (10 ∷ rest)) → Untitled rest → Untitled (bytes ++ (10 ∷ rest))
untitled_line bytes rest lacks apart more zero o = not_here (bytes ++ (10 ∷ rest)) apart o
untitled_line bytes rest lacks apart more (suc n) o = elim (cases_lt n (length bytes)) [
  | inl low ↦
      let here : suc n + 0 ≡ suc n = omega arith in
      line_within bytes n lacks low
      (sym (get_or_append_left bytes (10 ∷ rest) 0 n low) ∙ (ap (λ i. get_or (10 ∷ (bytes ++ (10 ∷ rest))) i 0) (sym here) ∙ o.reads 0 (omega arith)))
  | inr high ↦ more (n - length bytes) (occurs_in_back (10 ∷ bytes) (10 ∷ rest) border (suc n) (n - length bytes) (omega arith) o)
]

plain_lacks : (bytes : List ℕ) → Plain bytes → Lacks 10 bytes
plain_lacks [] plain = All-nil (λ x. x ≢ 10)
plain_lacks (byte ∷ rest) plain = All-cons (λ x. x ≢ 10) byte rest plain.0 (plain_lacks rest plain.1)

other_line : (bytes rest : List ℕ) → IsOther bytes → NoTitle (bytes ++ rest)
other_line bytes rest is = cases is.other
  where
    some : 3 ≤ length bytes
    some = is.some

    cases : (get_or bytes 0 0 ≢ 68) ⊎ (get_or bytes 2 0 ≢ 69) → NoTitle (bytes ++ rest)
    cases (inl first) = inl (λ e. first (sym (get_or_append_left bytes rest 0 0 (let h = some in omega arith)) ∙ e))
    cases (inr third) = inr (λ e. third (sym (get_or_append_left bytes rest 0 2 (let h = some in omega arith)) ∙ e))

untitled_lines : (text : List ℕ) → Lines text → (rest : List ℕ) → Untitled rest → Untitled (text ++ rest)
untitled_lines _ no_line rest more = more
untitled_lines _ (line bytes others plain is lines) rest more =
    subst Untitled (sym (append_assoc bytes (10 ∷ others) rest))
    (untitled_line bytes (others ++ rest) (plain_lacks bytes plain) (other_line bytes (10 ∷ (others ++ rest)) is) (untitled_lines others lines rest more))

-- ---- the text of a section
untitled_graphs : (ns ew : GraphShape) → IsGraph ns → IsGraph ew → Untitled (graphs_text ns ew)
untitled_graphs ns ew p q =
    untitled_lines (graph_text ns) (graph_lines ns p) (10 ∷ graph_text ew)
    (untitled_line [] (graph_text ew) (All-nil (λ x. x ≢ 10)) (inl (omega arith))
    (subst Untitled (append-nil (graph_text ew)) (untitled_lines (graph_text ew) (graph_lines ew q) [] untitled_nil)))

claim_bytes : Claim → List ℕ
claim_bytes claim =
    seat_letter claim.declarer ++ (32 ∷ (decimal claim.k ++ (32 ∷ (root_text claim.declarer_root ++ (32 ∷ root_text claim.defenders_root)))))

claim-is_line : (claim : Claim) (rest : List ℕ) → claim_line claim rest ≡ claim_bytes claim ++ (10 ∷ rest)
unfolding claim_bytes
claim-is_line claim rest = simp append_assoc

blank : (rest : List ℕ) → Lacks 10 rest → Lacks 10 (32 ∷ rest)
blank rest lacks = All-cons (λ x. x ≢ 10) 32 rest (omega arith) lacks

claim-lacks : (claim : Claim) → IsClaim claim → Lacks 10 (claim_bytes claim)
unfolding claim_bytes
claim-lacks claim is =
    All-append (λ x. x ≢ 10) (seat_letter claim.declarer) _ (seat-no_end claim.declarer)
    (blank _ (All-append (λ x. x ≢ 10) (decimal claim.k) _ (decimal-lacks 10 claim.k (omega arith) (tricks_fit claim is))
    (blank _ (All-append (λ x. x ≢ 10) (root_text claim.declarer_root) _ (root-lacks 10 claim.declarer_root (omega arith) is.declarer_root)
    (blank _ (root-lacks 10 claim.defenders_root (omega arith) is.defenders_root))))))

claim-other : (claim : Claim) (rest : List ℕ) → NoTitle (claim_bytes claim ++ rest)
unfolding claim_bytes
claim-other claim rest = letter claim.declarer _
  where
    letter : (seat : Seat) (more : List ℕ) → NoTitle ((seat_letter seat ++ more) ++ rest)
    letter North more = inl (omega arith)
    letter East more = inl (omega arith)
    letter South more = inl (omega arith)
    letter West more = inl (omega arith)

untitled_claims : (claims : List Claim) (rest : List ℕ) → AllClaims claims → Untitled rest → Untitled (claim_lines claims rest)
untitled_claims [] rest all more = more
untitled_claims (claim ∷ others) rest all more =
    subst Untitled (sym (claim-is_line claim (claim_lines others rest)))
    (untitled_line (claim_bytes claim) (claim_lines others rest) (claim-lacks claim all.0) (claim-other claim (10 ∷ claim_lines others rest)) (untitled_claims others rest all.1 more))

-- what stands behind the title
behind_title : SectionShape → List ℕ
behind_title section =
    deal_line section.deal (trump_text section.trump (count_line (length section.claims) (claim_lines section.claims (graphs_text section.ns section.ew))))

count-other : (n : ℕ) (rest : List ℕ) → NoTitle (count_front n ++ rest)
unfolding count_front
count-other n rest = inl (omega arith)

untitled_section : (section : SectionShape) → IsSection section → Untitled (behind_title section)
unfolding behind_title
untitled_section section is =
    let claims = untitled_claims section.claims (graphs_text section.ns section.ew) (AllClaims-from 0 section.claims is.claims_are)
    (untitled_graphs section.ns section.ew is.ns_is.graph is.ew_is.graph) in
    let few = few_claims section is in
    let from_claims = claim_lines section.claims (graphs_text section.ns section.ew) in
    let count : Untitled (count_line (length section.claims) from_claims) =
    subst Untitled (sym (count-cut (length section.claims) from_claims))
    (untitled_line (count_front (length section.claims)) from_claims (count-lacks (length section.claims) (omega arith)) (count-other (length section.claims) (10 ∷ from_claims)) claims) in
    let from_count = count_line (length section.claims) from_claims in
    let name : Untitled (trump_text section.trump from_count) =
    subst Untitled (append_assoc (codes "trump ") (trump_letters section.trump) (10 ∷ from_count))
    (untitled_line (codes "trump " ++ trump_letters section.trump) from_count
    (All-append (λ x. x ≢ 10) (codes "trump ") (trump_letters section.trump) (All-from_recursion (λ x. x ≢ 10) (codes "trump ") (omega arith, (omega arith, (omega arith, (omega arith, (omega arith, (omega arith, tt))))))) (trump-lacks section.trump))
    (inl (omega arith)) count) in
    subst Untitled (append_assoc (codes "deal ") (deal_text section.deal) (10 ∷ trump_text section.trump from_count))
    (untitled_line (codes "deal " ++ deal_text section.deal) (trump_text section.trump from_count)
    (All-append (λ x. x ≢ 10) (codes "deal ") (deal_text section.deal) (All-from_recursion (λ x. x ≢ 10) (codes "deal ") (omega arith, (omega arith, (omega arith, (omega arith, (omega arith, tt)))))) (deal-one_line section.deal))
    (inl (omega arith)) name)

-- ---- a section is one piece
abbrev title_bytes : List ℕ
title_bytes = codes "DDE 1"

no_border : (section : SectionShape) → IsSection section → (place : ℕ) → OccursAt (section_text section) border place → ⊥
unfolding behind_title
no_border section is place o = elim (cases_lt place 5) [
  | inl low ↦ early place low o
  | inr high ↦ untitled_section section is (place - 5) (occurs_in_back title_bytes (10 ∷ behind_title section) border place (place - 5) (omega arith) o)
]
  where
    early : (n : ℕ) → n < 5 → OccursAt (section_text section) border n → ⊥
    early zero h o = let e = o.reads 0 (omega arith) in omega arith
    early (suc zero) h o = let e = o.reads 0 (omega arith) in omega arith
    early (suc (suc zero)) h o = let e = o.reads 0 (omega arith) in omega arith
    early (suc (suc (suc zero))) h o = let e = o.reads 0 (omega arith) in omega arith
    early (suc (suc (suc (suc zero)))) h o = let e = o.reads 0 (omega arith) in omega arith
    early (suc (suc (suc (suc (suc n))))) h o = absurd (omega arith)

pub sections_are_parts : SectionsAreParts
sections_are_parts at section is few = (
  section_text section,
  [],
  inr (record { whole = refl; some = omega arith; nothing = refl; none = no_border section is }),
  (few, (is, refl)),
  refl,
)

-- ---- texts one after another
-- the last byte of a border ends a line, and no byte between the first and the last does
inner : (j : ℕ) → 0 < j → j < 6 → get_or border j 0 ≡ 10 → ⊥
inner zero p h e = omega arith
inner (suc zero) p h e = omega arith
inner (suc (suc zero)) p h e = omega arith
inner (suc (suc (suc zero))) p h e = omega arith
inner (suc (suc (suc (suc zero)))) p h e = omega arith
inner (suc (suc (suc (suc (suc zero))))) p h e = omega arith
inner (suc (suc (suc (suc (suc (suc j)))))) p h e = absurd (omega arith)

-- a border that begins in a text whose last byte ends a line stands in it, or begins with that byte
not_across : (text other : List ℕ) (place : ℕ) → 0 < length text → get_or text (length text - 1) 0 ≡ 10 → place < length text - 1 → OccursAt (text ++ other) border place → place + 7 ≤ length text
not_across text other place some ends low o = elim (cases_lt (length text) (place + 7)) [
  | inl across ↦
      let j : ℕ = length text - 1 - place in
      let at : place + (length text - 1 - place) ≡ length text - 1 = omega arith in
      absurd (inner (length text - 1 - place) (omega arith) (omega arith)
      (sym (o.reads (length text - 1 - place) (omega arith))
      ∙ (ap (λ i. get_or (text ++ other) i 0) at ∙ (get_or_append_left text other 0 (length text - 1) (omega arith) ∙ ends))))
  | inr within ↦ within
]

border_between : (text after : List ℕ) → 0 < length text → get_or text (length text - 1) 0 ≡ 10 → OccursAt (text ++ (title ++ after)) border (length text - 1)
border_between text after some ends = record {
  fits = omega (arith, length-append text (title ++ after));
  reads = λ j h. reads j h;
}
  where
    reads : (j : ℕ) → j < 7 → get_or (text ++ (title ++ after)) (length text - 1 + j) 0 ≡ get_or border j 0
    reads zero h =
        let at : length text - 1 + 0 ≡ length text - 1 = omega arith in
        ap (λ i. get_or (text ++ (title ++ after)) i 0) at ∙ (get_or_append_left text (title ++ after) 0 (length text - 1) (omega arith) ∙ ends)
    reads (suc j) h =
        let at : length text - 1 + suc j ≡ length text + j = omega arith in
        ap (λ i. get_or (text ++ (title ++ after)) i 0) at ∙ (get_or-append-add text (title ++ after) j 0 ∙ get_or_append_left title after 0 j (omega arith))

-- the end of a part of a text is that of the text
ends_rest : (piece rest : List ℕ) → 0 < length rest → EndsLine (piece ++ rest) → EndsLine rest
ends_rest piece rest some (inl none) = absurd (let all = length-append piece rest in let long : length (piece ++ rest) ≡ 0 = ap length none in omega arith)
ends_rest piece rest some (inr ends) =
    let all = length-append piece rest in
    let at : length (piece ++ rest) - 1 ≡ length piece + (length rest - 1) = omega arith in
    inr (sym (get_or-append-add piece rest (length rest - 1) 0) ∙ (ap (λ i. get_or (piece ++ rest) i 0) (sym at) ∙ ends))

joined : (parts : List Part) (at : ℕ) (text other : List ℕ) (others : List Part) → EndsLine text → BeginsTitle other → AreParts at text parts → AreParts (at + length text) other others → AreParts at (text ++ other) (parts ++ others)
joined [] at text other others ends begins p q =
    let none : length text ≡ 0 = ap length p in
    let here : at + length text ≡ at = omega arith in
    subst (λ t. AreParts at t others) (sym (ap (λ t. t ++ other) p)) (subst (λ n. AreParts n other others) here q)
joined (part ∷ more) at text other others ends begins (piece, rest, inl first, is, next) q =
    let fits = first.here.fits in
    let some = first.some in
    let long : length text ≡ length piece + length rest = ap length first.whole ∙ length-append piece rest in
    let here : at + length text ≡ at + length piece + length rest = omega arith in (
      piece,
      rest ++ other,
      inl (record {
        whole = ap (λ t. t ++ other) first.whole ∙ append_assoc piece rest other;
        some = some;
        here = occurs_before text other border (length piece - 1) first.here;
        first = λ place h o. first.first place h (occurs_in_front text other border place (omega arith) o);
      }),
      is,
      joined more (at + length piece) rest other others (ends_rest piece rest (omega arith) (subst EndsLine first.whole ends)) begins next
          (subst (λ n. AreParts n other others) here q),
    )
joined (part ∷ []) at text other others ends (after, begins) (piece, rest, inr first, is, next) q =
    let some = first.some in
    let long : length text ≡ length piece = ap length first.whole in
    let end : get_or text (length text - 1) 0 ≡ 10 = last ends (omega arith) in (
      piece,
      other,
      inl (record {
        whole = ap (λ t. t ++ other) first.whole;
        some = some;
        here = subst (λ n. OccursAt (text ++ other) border (n - 1)) long
            (subst (λ t. OccursAt (text ++ t) border (length text - 1)) (sym begins) (border_between text after (omega arith) end));
        first = λ place h o.
            let within = not_across text other place (omega arith) end (omega arith) o in
            first.none place (occurs_in_front text other border place (omega arith) o);
      }),
      is,
      subst (λ n. AreParts (at + n) other others) long q,
    )
  where
    last : EndsLine text → 0 < length text → get_or text (length text - 1) 0 ≡ 10
    last (inl none) h = absurd (let zero : length text ≡ 0 = ap length none in omega arith)
    last (inr e) h = e
joined (part ∷ (next_part ∷ more)) at text other others ends begins (piece, rest, inr first, is, next) q =
    absurd (no_piece rest next.0 next.1 first.nothing next.2)

pub parts_are_joined : PartsAreJoined
parts_are_joined at text other parts others ends begins p q = joined parts at text other others ends begins p q

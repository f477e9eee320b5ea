-- What stands before the graphs of a section, word by word.
use Rattle.std.proofs.Common.{◌≡◌, ◌≢◌, ℕ, ◌+◌, ◌^◌, ◌<◌, ◌≤◌, List, [], ◌∷◌, ◌++◌, length, Option, None, Some, Ok, Err, Result, Bor, codes, sym, ◌∙◌, ap, subst, arith, append_assoc}
use Rattle.std.specs.Prelude.{MatchOption}
use Rattle.std.specs.Fmt.{decimal}
use Rattle.std.proofs.lemmas.List.{length_push, append-nil, append_cancel_left}
use Rattle.std.proofs.lemmas.List.Elements.{All-from_recursion, All-append}
use Rattle.cards.specs.declared.seats.Seat.{Seat}
use Rattle.cards.specs.declared.seats.Seat.TheVariants.{North, East, South, West}
use Rattle.cards.specs.Seats.{seat_letter, seat_number}
use Rattle.cards.specs.Deal.{Deal, IsLayout}
use Rattle.pbn_deals.specs.Reading.{Lacks}
use Rattle.pbn_deals.specs.LayoutValue.{SaysLayout}
use Rattle.pbn_deals.specs.declared.faults.PbnFault.{PbnFault}
use Rattle.pbn_deals.proofs.OneLayout.{one_layout}
use Rattle.pbn_deals.specs.DealText.{deal_text}
use Rattle.pbn_deals.proofs.Dealt.{IsDealOf-held_of}
use Rattle.pbn_deals.proofs.DealWords.{held_of, deal-named, deal-one_line}
use Rattle.certificate_graph.specs.declared.bundles.Claim.{Claim}
use Rattle.evidence.specs.Sections.{IsClaim, AreClaims}
use Rattle.evidence.specs.SectionTexts.{title, root_text, claim_line, claim_lines, deal_line, count_line}
use Rattle.evidence.specs.Readings.{LacksClaim, FindsClaim, NamesNoSeat, AllClaims}
use Rattle.evidence.proofs.CutLemmas.{one_front, some_byte}
use Rattle.evidence.proofs.WordLemmas.{decimal-lacks, root-lacks, seat-lacks}

-- ---- the line of a claim
-- from each of its words on
abbrev pub from_second_root : Claim → List ℕ → List ℕ
from_second_root claim more = root_text claim.defenders_root ++ (10 ∷ more)

abbrev pub from_first_root : Claim → List ℕ → List ℕ
from_first_root claim more = root_text claim.declarer_root ++ (32 ∷ from_second_root claim more)

abbrev pub from_tricks : Claim → List ℕ → List ℕ
from_tricks claim more = decimal claim.k ++ (32 ∷ from_first_root claim more)

pub tricks_fit : (claim : Claim) → IsClaim claim → claim.k < 2 ^ 64
tricks_fit claim is = let few = is.few in omega arith

module _ (claim : Claim) (more : List ℕ) (is : IsClaim claim) where
  pub first_word : (text word rest : List ℕ) → text ≡ word ++ (32 ∷ rest) → Lacks 32 word → text ≡ claim_line claim more → (word ≡ seat_letter claim.declarer) × (rest ≡ from_tricks claim more)
  first_word text word rest cut lacks e =
      one_front 32 word (seat_letter claim.declarer) rest (from_tricks claim more) lacks (seat-lacks claim.declarer) (sym cut ∙ e)

  pub second_word : (text word rest : List ℕ) → text ≡ word ++ (32 ∷ rest) → Lacks 32 word → text ≡ from_tricks claim more → (word ≡ decimal claim.k) × (rest ≡ from_first_root claim more)
  second_word text word rest cut lacks e =
      one_front 32 word (decimal claim.k) rest (from_first_root claim more) lacks (decimal-lacks 32 claim.k (omega arith) (tricks_fit claim is)) (sym cut ∙ e)

  pub third_word : (text word rest : List ℕ) → text ≡ word ++ (32 ∷ rest) → Lacks 32 word → text ≡ from_first_root claim more → (word ≡ root_text claim.declarer_root) × (rest ≡ from_second_root claim more)
  third_word text word rest cut lacks e =
      one_front 32 word (root_text claim.declarer_root) rest (from_second_root claim more) lacks (root-lacks 32 claim.declarer_root (omega arith) is.declarer_root) (sym cut ∙ e)

  pub fourth_word : (text word rest : List ℕ) → text ≡ word ++ (10 ∷ rest) → Lacks 10 word → text ≡ from_second_root claim more → (word ≡ root_text claim.defenders_root) × (rest ≡ more)
  fourth_word text word rest cut lacks e =
      one_front 10 word (root_text claim.defenders_root) rest more lacks (root-lacks 10 claim.defenders_root (omega arith) is.defenders_root) (sym cut ∙ e)

pub claim-cut : (claim : Claim) (front rest : List ℕ) → claim_line claim (front ++ rest) ≡ claim_line claim front ++ rest
claim-cut claim front rest = simp append_assoc

-- a text that lacks the byte is no such line
pub no_byte : (byte : ℕ) (text front rest : List ℕ) → Lacks byte text → text ≡ front ++ (byte ∷ rest) → ⊥
no_byte byte text front rest lacks e = some_byte byte front rest (subst (Lacks byte) e lacks)

-- ---- claims
pub AllClaims-from : (least : ℕ) (claims : List Claim) → AreClaims least claims → AllClaims claims
AllClaims-from least [] are = tt
AllClaims-from least (claim ∷ more) are = (are.1, AllClaims-from (seat_number claim.declarer + 1) more are.2)

pub length-claims : (least : ℕ) (claims : List Claim) → least ≤ 4 → AreClaims least claims → least + length claims ≤ 4
length-claims least [] low are = omega arith
length-claims least (claim ∷ more) low are =
    let seat = seat_below claim.declarer in
    let rise = are.0 in
    let next = length-claims (seat_number claim.declarer + 1) more (omega arith) are.2 in
    omega arith
  where
    seat_below : (seat : Seat) → seat_number seat < 4
    seat_below North = omega arith
    seat_below East = omega arith
    seat_below South = omega arith
    seat_below West = omega arith

-- what is read of the lines of claims
pub none_read : (text : List ℕ) (old more : List Claim) (rest : List ℕ) → LacksClaim text → AllClaims more → text ≡ claim_lines more rest → old ≡ old ++ more
none_read text old [] rest lacks all e = sym (append-nil old)
none_read text old (c ∷ cs) rest lacks all e = absurd (lacks c (claim_lines cs rest) all.0 e)

pub claims_read : (text : List ℕ) (claim : Claim) (after : List ℕ) (old pushed new : List Claim) → FindsClaim text claim after → pushed ≡ old ++ (claim ∷ [])
    → ((more : List Claim) (rest : List ℕ) → AllClaims more → NamesNoSeat rest → length pushed + length more ≤ 4 → after ≡ claim_lines more rest → new ≡ pushed ++ more)
    → (more : List Claim) (rest : List ℕ) → AllClaims more → NamesNoSeat rest → length old + length more ≤ 4 → text ≡ claim_lines more rest → new ≡ old ++ more
claims_read text claim after old pushed new finds push go [] rest all none few e = absurd (none claim.declarer finds.after (sym e ∙ finds.named))
claims_read text claim after old pushed new finds push go (c ∷ cs) rest all none few e =
    let same = finds.found c (claim_lines cs rest) all.0 e in
    let long : length pushed ≡ length old + 1 = ap length push ∙ length_push old claim in
    go cs rest all.1 none (omega (arith, long)) same.1
    ∙ (ap (λ t. t ++ cs) (push ∙ ap (λ k. old ++ (k ∷ [])) same.0) ∙ append_assoc old (c ∷ []) cs)

-- ---- the deal
pub says_deal : (deal : Deal) → IsLayout deal → SaysLayout (deal_text deal) (Ok deal)
says_deal deal layout = (held_of deal, deal-named deal, IsDealOf-held_of deal layout)

pub one_deal : (one other : Deal) → IsLayout one → IsLayout other → deal_text one ≡ deal_text other → one ≡ other
one_deal one other p q e = ok_same (one_layout (deal_text other) (Ok one) (Ok other) (subst (λ value. SaysLayout value (Ok one)) e (says_deal one p)) (says_deal other q))
  where
    ok_same : ◌≡◌ {A = Result Deal PbnFault} (Ok one) (Ok other) → one ≡ other
    ok_same h = cc

pub deal_refused : (deal : Deal) (value : List ℕ) (fault : PbnFault) → IsLayout deal → value ≡ deal_text deal → SaysLayout value (Err fault) → ⊥
deal_refused deal value fault layout e says = apart (one_layout (deal_text deal) (Err fault) (Ok deal) (subst (λ v. SaysLayout v (Err fault)) e says) (says_deal deal layout))
  where
    apart : ◌≡◌ {A = Result Deal PbnFault} (Err fault) (Ok deal) → ⊥
    apart h = cc

pub deal_read : (deal one : Deal) (value : List ℕ) → IsLayout deal → value ≡ deal_text deal → SaysLayout value (Ok one) → one ≡ deal
deal_read deal one value layout e says = ok_same (one_layout (deal_text deal) (Ok one) (Ok deal) (subst (λ v. SaysLayout v (Ok one)) e says) (says_deal deal layout))
  where
    ok_same : ◌≡◌ {A = Result Deal PbnFault} (Ok one) (Ok deal) → one ≡ deal
    ok_same h = cc

-- ---- the number of claims
unfoldable pub count_front : ℕ → List ℕ
count_front n = codes "claims " ++ decimal n

pub count-cut : (n : ℕ) (rest : List ℕ) → count_line n rest ≡ count_front n ++ (10 ∷ rest)
unfolding count_front
count-cut n rest = sym (append_assoc (codes "claims ") (decimal n) (10 ∷ rest))

pub count-lacks : (n : ℕ) → n < 2 ^ 64 → Lacks 10 (count_front n)
unfolding count_front
count-lacks n fits = All-append (λ x. x ≢ 10) (codes "claims ") (decimal n)
    (All-from_recursion (λ x. x ≢ 10) (codes "claims ") (omega arith, (omega arith, (omega arith, (omega arith, (omega arith, (omega arith, (omega arith, tt))))))))
    (decimal-lacks 10 n (omega arith) fits)

-- ---- the line of the deal
pub deal_cut : (text rest : List ℕ) (r : Option (Bor (List ℕ) × Bor (List ℕ))) → text ≡ (title ++ codes "deal ") ++ rest
    → MatchOption r (Lacks 10 rest) (λ found. (rest ≡ found.0.now ++ (10 ∷ found.1.now)) × Lacks 10 found.0.now)
    → MatchOption r ((deal : Deal) (more : List ℕ) → text ≢ title ++ deal_line deal more)
    (λ p. (deal : Deal) (more : List ℕ) → text ≡ title ++ deal_line deal more → (p.0.now ≡ deal_text deal) × (p.1.now ≡ more))
deal_cut text rest None e lacks = λ deal more h.
    no_byte 10 rest (deal_text deal) more lacks (append_cancel_left (title ++ codes "deal ") rest (deal_text deal ++ (10 ∷ more)) (sym e ∙ h))
deal_cut text rest (Some found) e cut = λ deal more h.
    one_front 10 found.0.now (deal_text deal) found.1.now more cut.1 (deal-one_line deal)
    (sym cut.0 ∙ append_cancel_left (title ++ codes "deal ") rest (deal_text deal ++ (10 ∷ more)) (sym e ∙ h))

-- ---- no claims before
pub room_for : (old more : List Claim) → old ≡ [] → length more ≤ 4 → length old + length more ≤ 4
room_for old more none few = rw none (omega arith)

pub after_none : (old more : List Claim) → old ≡ [] → old ++ more ≡ more
after_none old more none = ap (λ l. l ++ more) none

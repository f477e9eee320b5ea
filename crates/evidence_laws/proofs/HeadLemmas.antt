-- What stands before the graphs of a section, word by word.
use Rattle.std.proofs.Common.{◌≡◌, ◌≢◌, ℕ, ◌^◌, ◌<◌, List, [], ◌∷◌, length, Option, None, Some, codes, refl, sym, ◌∙◌, ap, subst, arith}
use Rattle.std.specs.Fmt.{decimal}
use Rattle.std.proofs.lemmas.Fmt.{decimal_injective}
use Rattle.std.proofs.lemmas.List.{append_cancel_left}
use Rattle.std.proofs.lemmas.List.Elements.{All-head}
use Rattle.cards.specs.declared.seats.Seat.{Seat}
use Rattle.pbn_deals.specs.Reading.{Lacks}
use Rattle.certificate_graph.proofs.OneSpelling.{tails, one_seat}
use Rattle.certificate_graph.specs.declared.bundles.Claim.{Claim}
use Rattle.evidence.specs.Sections.{IsRoot, IsClaim}
use Rattle.evidence.specs.SectionTexts.{root_text, claim_line, claim_lines}
use Rattle.evidence.specs.Readings.{AllClaims}
use Rattle.evidence.proofs.WordLemmas.{decimal-lacks, few_fits, root_fits, root-lacks}
use Rattle.evidence.proofs.HeadLemmas.{count_front, fourth_word, from_first_root, from_second_root, from_tricks, second_word, third_word, tricks_fit}

-- ---- one claim
minus_is_no_number : (n : ℕ) → n < 1000000 → codes "-" ≡ decimal n → ⊥
minus_is_no_number n few e =
    let lacks : Lacks 45 (decimal n) = decimal-lacks 45 n (omega arith) (few_fits n (root_fits n few)) in
    All-head (λ x. x ≢ 45) 45 [] (subst (Lacks 45) (sym e) lacks) refl

one_root : (one other : Option ℕ) → IsRoot one → IsRoot other → root_text one ≡ root_text other → one ≡ other
one_root None None p q e = refl
one_root None (Some n) p q e = absurd (minus_is_no_number n q e)
one_root (Some m) None p q e = absurd (minus_is_no_number m p (sym e))
one_root (Some m) (Some n) p q e =
    ap Some (decimal_injective m n (few_fits m (root_fits m p)) (few_fits n (root_fits n q)) e)

abbrev claim_of : Seat → ℕ → Option ℕ → Option ℕ → Claim
claim_of declarer k one other = record { declarer = declarer; k = k; declarer_root = one; defenders_root = other }

pub same_claim : (c d : Claim) → c.declarer ≡ d.declarer → c.k ≡ d.k → c.declarer_root ≡ d.declarer_root → c.defenders_root ≡ d.defenders_root → c ≡ d
same_claim c d p q r s =
    ap (λ x. claim_of x c.k c.declarer_root c.defenders_root) p
    ∙ (ap (λ x. claim_of d.declarer x c.declarer_root c.defenders_root) q
    ∙ (ap (λ x. claim_of d.declarer d.k x c.defenders_root) r
    ∙ ap (λ x. claim_of d.declarer d.k d.declarer_root x) s))

pub one_claim : (c d : Claim) (a b : List ℕ) → IsClaim c → IsClaim d → claim_line c a ≡ claim_line d b → (c ≡ d) × (a ≡ b)
one_claim c d a b p q e =
    let seat = one_seat c.declarer d.declarer (32 ∷ from_tricks c a) (32 ∷ from_tricks d b) e in
    let tricks = second_word d b q (from_tricks c a) (decimal c.k) (from_first_root c a) refl
    (decimal-lacks 32 c.k (omega arith) (tricks_fit c p)) (tails 32 32 (from_tricks c a) (from_tricks d b) seat.1) in
    let first = third_word d b q (from_first_root c a) (root_text c.declarer_root) (from_second_root c a) refl
    (root-lacks 32 c.declarer_root (omega arith) p.declarer_root) tricks.1 in
    let second = fourth_word d b q (from_second_root c a) (root_text c.defenders_root) a refl
    (root-lacks 10 c.defenders_root (omega arith) p.defenders_root) first.1 in (
      same_claim c d seat.0 (decimal_injective c.k d.k (tricks_fit c p) (tricks_fit d q) tricks.0)
          (one_root c.declarer_root d.declarer_root p.declarer_root q.declarer_root first.0)
          (one_root c.defenders_root d.defenders_root p.defenders_root q.defenders_root second.0),
      second.1,
    )

pub one_claims : (cs ds : List Claim) (a b : List ℕ) → AllClaims cs → AllClaims ds → length cs ≡ length ds → claim_lines cs a ≡ claim_lines ds b → (cs ≡ ds) × (a ≡ b)
one_claims [] [] a b p q n e = (refl, e)
one_claims [] (d ∷ ds) a b p q n e = absurd (omega arith)
one_claims (c ∷ cs) [] a b p q n e = absurd (omega arith)
one_claims (c ∷ cs) (d ∷ ds) a b p q n e =
    let first = one_claim c d (claim_lines cs a) (claim_lines ds b) p.0 q.0 e in
    let next = one_claims cs ds a b p.1 q.1 (omega arith) first.1 in
    (ap (λ x. x ∷ cs) first.0 ∙ ap (λ xs. d ∷ xs) next.0, next.1)

pub one_count : (m n : ℕ) → m < 2 ^ 64 → n < 2 ^ 64 → count_front m ≡ count_front n → m ≡ n
unfolding count_front
one_count m n p q e = decimal_injective m n p q (append_cancel_left (codes "claims ") (decimal m) (decimal n) e)

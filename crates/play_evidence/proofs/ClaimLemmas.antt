-- The texts of claims and begun nodes have one reading.
use Rattle.std.proofs.Common.{◌≡◌, ◌≢◌, ℕ, ◌-◌, ◌<◌, ◌≤◌, List, [], ◌∷◌, ◌++◌, length, Option, None, Some, Bor, sym, ◌∙◌, ap, arith, append_assoc}
use Rattle.std.specs.List.{AllByRecursion}
use Rattle.std.specs.Fmt.{decimal}
use Rattle.std.proofs.lemmas.List.Elements.{All-head}
use Rattle.pbn_deals.specs.Reading.{Lacks}
use Rattle.certificate_graph.proofs.OneSpelling.{heads}
use Rattle.evidence.specs.SectionTexts.{root_text}
use Rattle.evidence.proofs.CutLemmas.{one_front}
use Rattle.evidence.proofs.WordLemmas.{decimal-lacks, root-lacks}
use Rattle.play_claims.specs.declared.claims.PlayClaim.{PlayClaim}
use Rattle.play_evidence.specs.Sections.{IsNumbers}
use Rattle.play_evidence.specs.SectionTexts.{numbers_line}
use Rattle.std.proofs.lemmas.List.{append-nil}
use Rattle.play_evidence.specs.Readings.{AddsAll}

-- ---- the words of a claim
abbrev pub from_ew : PlayClaim → List ℕ → List ℕ
from_ew claim rest = root_text claim.ew ++ (10 ∷ rest)

abbrev pub from_ns : PlayClaim → List ℕ → List ℕ
from_ns claim rest = root_text claim.ns ++ (32 ∷ from_ew claim rest)

tricks-lack : (byte n : ℕ) → byte < 48 → n ≤ 13 → Lacks byte (decimal n)
tricks-lack byte n low few = decimal-lacks byte n low (omega arith)

module _ (claim : PlayClaim) (rest : List ℕ) (is : IsNumbers claim) where
  pub first_word : (text word after : List ℕ) → text ≡ numbers_line claim rest → (text ≡ word ++ (32 ∷ after)) × Lacks 32 word → (word ≡ decimal claim.tricks) × (after ≡ from_ns claim rest)
  first_word text word after e cut = one_front 32 word (decimal claim.tricks) after (from_ns claim rest) cut.1 (tricks-lack 32 claim.tricks (omega arith) is.few) (sym cut.0 ∙ e)

  pub second_word : (text word after : List ℕ) → text ≡ from_ns claim rest → (text ≡ word ++ (32 ∷ after)) × Lacks 32 word → (word ≡ root_text claim.ns) × (after ≡ from_ew claim rest)
  second_word text word after e cut = one_front 32 word (root_text claim.ns) after (from_ew claim rest) cut.1 (root-lacks 32 claim.ns (omega arith) is.ns) (sym cut.0 ∙ e)

  pub third_word : (text word after : List ℕ) → text ≡ from_ew claim rest → (text ≡ word ++ (10 ∷ after)) × Lacks 10 word → (word ≡ root_text claim.ew) × (after ≡ rest)
  third_word text word after e cut = one_front 10 word (root_text claim.ew) after rest cut.1 (root-lacks 10 claim.ew (omega arith) is.ew) (sym cut.0 ∙ e)

claim_of : ℕ → Option ℕ → Option ℕ → PlayClaim
claim_of tricks ns ew = record { tricks = tricks; ns = ns; ew = ew }

pub same_claim : (a b : PlayClaim) → a.tricks ≡ b.tricks → a.ns ≡ b.ns → a.ew ≡ b.ew → a ≡ b
unfolding claim_of
same_claim a b p q r = ap (λ x. claim_of x a.ns a.ew) p ∙ (ap (λ x. claim_of b.tricks x a.ew) q ∙ ap (λ x. claim_of b.tricks b.ns x) r)

no_dash : (digits more rest : List ℕ) → Lacks 45 digits → digits ++ (32 ∷ more) ≡ 45 ∷ rest → ⊥
no_dash [] more rest lacks e = let same = heads 32 45 more rest e in omega arith
no_dash (x ∷ xs) more rest lacks e = All-head (λ z. z ≢ 45) x xs lacks (heads x 45 (xs ++ (32 ∷ more)) rest e)

-- the numbers of a claim don't begin with a dash
pub not_dashed : (claim : PlayClaim) (rest after : List ℕ) → IsNumbers claim → 45 ∷ 10 ∷ after ≡ numbers_line claim rest → ⊥
not_dashed claim rest after is e = no_dash (decimal claim.tricks) (from_ns claim rest) (10 ∷ after) (tricks-lack 45 claim.tricks (omega arith) is.few) (sym e)

-- ---- several
module _ {X : Type 0} (Is : X → Type 0) (form : List X → List ℕ → List ℕ) (first : X → List ℕ → List ℕ)
    (form-nil : (rest : List ℕ) → form [] rest ≡ rest) (form-cons : (x : X) (more : List X) (rest : List ℕ) → form (x ∷ more) rest ≡ first x (form more rest)) where
  -- none is looked for
  pub none_added : (count : ℕ) (text : List ℕ) (old : List X) (after : Bor (List ℕ)) → count ≡ 0 → after.now ≡ text → AddsAll Is form count text old old (Some after)
  none_added count text old after zero is [] rest long each e = (sym (append-nil old), is ∙ (e ∙ form-nil rest))
  none_added count text old after zero is (x ∷ more) rest long each e = absurd (omega arith)

  -- the first isn't there
  pub first_lacks : (count : ℕ) (text : List ℕ) (old new : List X) → 0 < count → ((x : X) (rest : List ℕ) → Is x → text ≢ first x rest) → AddsAll Is form count text old new None
  first_lacks count text old new some none [] rest long each e = absurd (omega arith)
  first_lacks count text old new some none (x ∷ more) rest long each e = none x (form more rest) each.0 (e ∙ form-cons x more rest)

  -- the first was read
  pub first_added : (count : ℕ) (text after : List ℕ) (old pushed new : List X) (x : X) (r : Option (Bor (List ℕ))) → 0 < count → pushed ≡ old ++ x ∷ []
      → ((y : X) (rest : List ℕ) → Is y → text ≡ first y rest → (x ≡ y) × (after ≡ rest))
      → AddsAll Is form (count - 1) after pushed new r → AddsAll Is form count text old new r
  first_added count text after old pushed new x None some push found none = lacks
    where
      lacks : (more : List X) (rest : List ℕ) → length more ≡ count → AllByRecursion Is more → text ≢ form more rest
      lacks [] rest long each e = absurd (omega arith)
      lacks (y ∷ more) rest long each e =
          none more rest (omega arith) each.1 (found y (form more rest) each.0 (e ∙ form-cons y more rest)).1
  first_added count text after old pushed new x (Some last) some push found adds = goes_on
    where
      goes_on : (more : List X) (rest : List ℕ) → length more ≡ count → AllByRecursion Is more → text ≡ form more rest → (new ≡ old ++ more) × (last.now ≡ rest)
      goes_on [] rest long each e = absurd (omega arith)
      goes_on (y ∷ more) rest long each e =
          let one = found y (form more rest) each.0 (e ∙ form-cons y more rest) in
          let others = adds more rest (omega arith) each.1 one.1 in (
            others.0 ∙ (ap (λ (l : List X). l ++ more) push ∙ (append_assoc old (x ∷ []) more ∙ ap (λ (z : X). old ++ (z ∷ more)) one.0)),
            others.1,
          )

-- Lists of leases whose numbers rise, and what they weigh.
use Rattle.std.proofs.Common.{◌≡◌, ℕ, ◌+◌, ◌<◌, ◌≤◌, Bool, true, false, not, cond, List, [], ◌∷◌, ◌++◌, count_by, refl, ◌∙◌, ap, inl, inr, arith}
use Rattle.std.specs.List.{filter, list_any}
use Rattle.std.proofs.lemmas.Bool.{ne_eqb, or_parts, or_from, or_left, or_right}
use Rattle.std.proofs.lemmas.List.Sums.{sum_by-cons}
use Rattle.lease_book.specs.declared.events.Grant.{Grant}
use Rattle.lease_book.specs.Histories.{is_numbered}
use Rattle.lease_book.specs.Keeping.{Among}
use Rattle.audits.specs.Grants.{AreWithin}

-- what a test leaves that all pass, and none
pub filter_all : (test : Grant → Bool) (grants : List Grant) → ((grant : Grant) → test grant ≡ true) → filter test grants ≡ grants
filter_all test [] all = refl
filter_all test (first ∷ rest) all =
    ap (λ (b : Bool). cond b (first ∷ filter test rest) (filter test rest)) (all first)
    ∙ ap (λ (grants : List Grant). first ∷ grants) (filter_all test rest all)

pub filter_none : (test : Grant → Bool) (grants : List Grant) → list_any test grants ≡ false → filter (λ grant. not (test grant)) grants ≡ grants
filter_none test [] none = refl
filter_none test (first ∷ rest) none =
    let both = or_parts (test first) (list_any test rest) none in
    ap (λ (b : Bool). cond (not b) (first ∷ filter (λ grant. not (test grant)) rest) (filter (λ grant. not (test grant)) rest)) both.0
    ∙ ap (λ (grants : List Grant). first ∷ grants) (filter_none test rest both.1)

pub count_none : (test : Grant → Bool) (grants : List Grant) → list_any test grants ≡ false → count_by test grants ≡ 0
count_none test [] none = refl
count_none test (first ∷ rest) none =
    let both = or_parts (test first) (list_any test rest) none in
    sum_by-cons (λ x. cond (test x) 1 0) first rest
    ∙ ap (λ (b : Bool). cond b 1 0 + count_by test rest) both.0
    ∙ (let later : count_by test rest ≡ 0 = count_none test rest both.1 in omega (arith, later))

pub counted : (test : Grant → Bool) (grants : List Grant) → 1 ≤ count_by test grants → list_any test grants ≡ true
counted test [] some = absurd (omega (arith, some))
counted test (first ∷ rest) some = go (test first) refl (counted test rest)
  where
    one_if : Bool → ℕ
    one_if b = cond b 1 0

    count : count_by test (first ∷ rest) ≡ one_if (test first) + count_by test rest
    count = sum_by-cons (λ x. cond (test x) 1 0) first rest

    go : (b : Bool) → test first ≡ b → (1 ≤ count_by test rest → list_any test rest ≡ true) → list_any test (first ∷ rest) ≡ true
    go true is later = or_left (test first) (list_any test rest) is
    go false is later =
        let zero : one_if (test first) ≡ 0 = ap one_if is in
        or_right (test first) (list_any test rest) (later (omega (arith, some, count, zero)))

-- ---- numbers that rise
pub within_push : (low high higher : ℕ) (grants : List Grant) (grant : Grant) → AreWithin low high grants → high ≤ grant.lease → grant.lease < higher → AreWithin low higher (grants ++ grant ∷ [])
within_push low high higher [] grant within from below = (omega (arith, within, from), omega (arith, below))
within_push low high higher (first ∷ rest) grant within from below = (within.0, within_push (first.lease + 1) high higher rest grant within.1 from below)

-- none of them has a smaller number
pub none_numbered : (low high lease : ℕ) (grants : List Grant) → AreWithin low high grants → lease < low → list_any (is_numbered lease) grants ≡ false
none_numbered low high lease [] within below = refl
none_numbered low high lease (first ∷ rest) within below =
    let from = within.0 in
    or_from (is_numbered lease first) (list_any (is_numbered lease) rest) (ne_eqb first.lease lease (λ same. omega (arith, from, below, same)))
    (none_numbered (first.lease + 1) high lease rest within.1 (omega (arith, from, below)))

pub within_higher : (low high higher : ℕ) (grants : List Grant) → AreWithin low high grants → high ≤ higher → AreWithin low higher grants
within_higher low high higher [] within over = omega (arith, within, over)
within_higher low high higher (first ∷ rest) within over = (within.0, within_higher (first.lease + 1) high higher rest within.1 over)

-- ---- one of some
pub among_left : (grants more : List Grant) (grant : Grant) → Among grant grants → Among grant (grants ++ more)
among_left [] more grant none = absurd none
among_left (first ∷ rest) more grant (inl is) = inl is
among_left (first ∷ rest) more grant (inr later) = inr (among_left rest more grant later)

pub among_last : (grants : List Grant) (grant : Grant) → Among grant (grants ++ grant ∷ [])
among_last [] grant = inl refl
among_last (first ∷ rest) grant = inr (among_last rest grant)

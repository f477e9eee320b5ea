-- Lists of leases of which no two are of one entry.
use Rattle.std.proofs.Common.{◌≡◌, ℕ, zero, suc, ◌+◌, ◌<◌, ◌≤◌, Bool, true, false, not, cond, ◌||◌, List, [], ◌∷◌, ◌++◌, length, get_or, Option, None, Some, is_none, refl, sym, ◌∙◌, ap, ◌⊎◌, inl, inr, arith}
use Rattle.std.specs.List.{filter, find, list_any}
use Rattle.std.proofs.lemmas.Bool.{false≢true, eqb-true, eq-eqb, ne_eqb, or_cases, or_parts, or_from, or_left, or_right, both_ways}
use Rattle.lease_book.specs.declared.events.Grant.{Grant}
use Rattle.lease_book.specs.Entries.{place_of}
use Rattle.lease_book.specs.Histories.{is_for_place, is_numbered}
use Rattle.lease_book.specs.Keeping.{Among, AreApart, AreNumberedFrom}

-- what a test leaves of a lease
abbrev pub keep_if : (Grant → Bool) → Option Grant → Option Grant
keep_if test None = None
keep_if test (Some grant) = cond (test grant) (Some grant) None

pub among_any : (test : Grant → Bool) (grants : List Grant) (grant : Grant) → Among grant grants → test grant ≡ true → list_any test grants ≡ true
among_any test [] grant m h = elim m [ ]
among_any test (first ∷ rest) grant (inl e) h = or_left (test first) (list_any test rest) (ap test e ∙ h)
among_any test (first ∷ rest) grant (inr m) h = or_right (test first) (list_any test rest) (among_any test rest grant m h)

pub any_among : (test : Grant → Bool) (grants : List Grant) → list_any test grants ≡ true → (grant : Grant) × Among grant grants × (test grant ≡ true)
any_among test [] h = absurd (false≢true h)
any_among test (first ∷ rest) h = go (any_among test rest) (or_cases (test first) (list_any test rest) h)
  where
    go : (list_any test rest ≡ true → (grant : Grant) × Among grant rest × (test grant ≡ true)) → (test first ≡ true) ⊎ (list_any test rest ≡ true) → (grant : Grant) × Among grant (first ∷ rest) × (test grant ≡ true)
    go later (inl e) = (first, inl refl, e)
    go later (inr a) = let found = later a in (found.0, inr found.1, found.2)

pub find_among : (test : Grant → Bool) (grants : List Grant) (grant : Grant) → find test grants ≡ Some grant → Among grant grants × (test grant ≡ true)
find_among test [] grant h = cc
find_among test (first ∷ rest) grant h = go (test first) refl (find_among test rest grant) h
  where
    go : (b : Bool) → test first ≡ b → (find test rest ≡ Some grant → Among grant rest × (test grant ≡ true)) → cond b (Some first) (find test rest) ≡ Some grant → Among grant (first ∷ rest) × (test grant ≡ true)
    go true e later f = let same : first ≡ grant = cc in (inl same, ap test (sym same) ∙ e)
    go false e later f = let found = later f in (inr found.0, found.1)

pub find_none : (test : Grant → Bool) (grants : List Grant) → list_any test grants ≡ false → find test grants ≡ None
find_none test [] h = refl
find_none test (first ∷ rest) h =
    let both = or_parts (test first) (list_any test rest) h in
    ap (λ b. cond b (Some first) (find test rest)) both.0 ∙ find_none test rest both.1

pub is_none_find : (test : Grant → Bool) (grants : List Grant) → is_none (find test grants) ≡ not (list_any test grants)
is_none_find test [] = refl
is_none_find test (first ∷ rest) = go (test first) (is_none_find test rest)
  where
    go : (b : Bool) → is_none (find test rest) ≡ not (list_any test rest) → is_none (cond b (Some first) (find test rest)) ≡ not (b || list_any test rest)
    go true e = refl
    go false e = e

pub any_filter : (test left : Grant → Bool) (grants : List Grant) → list_any test grants ≡ false → list_any test (filter left grants) ≡ false
any_filter test left [] h = refl
any_filter test left (first ∷ rest) h =
    let both = or_parts (test first) (list_any test rest) h in
    go (left first) (any_filter test left rest both.1) both.0
  where
    go : (b : Bool) → list_any test (filter left rest) ≡ false → test first ≡ false → list_any test (cond b (first ∷ filter left rest) (filter left rest)) ≡ false
    go true later f = or_from (test first) (list_any test (filter left rest)) f later
    go false later f = later

pub among_filter : (left : Grant → Bool) (grants : List Grant) (grant : Grant) → Among grant (filter left grants) → Among grant grants
among_filter left [] grant m = m
among_filter left (first ∷ rest) grant m = go (left first) (among_filter left rest grant) m
  where
    go : (b : Bool) → (Among grant (filter left rest) → Among grant rest) → Among grant (cond b (first ∷ filter left rest) (filter left rest)) → Among grant (first ∷ rest)
    go true later (inl e) = inl e
    go true later (inr n) = inr (later n)
    go false later n = inr (later n)

pub among_append : (grants more : List Grant) (grant : Grant) → Among grant (grants ++ more) → Among grant grants ⊎ Among grant more
among_append [] more grant m = inr m
among_append (first ∷ rest) more grant (inl e) = inl (inl e)
among_append (first ∷ rest) more grant (inr m) = go (among_append rest more grant m)
  where
    go : Among grant rest ⊎ Among grant more → Among grant (first ∷ rest) ⊎ Among grant more
    go (inl n) = inl (inr n)
    go (inr n) = inr n

pub apart_filter : (left : Grant → Bool) (grants : List Grant) → AreApart grants → AreApart (filter left grants)
apart_filter left [] apart = tt
apart_filter left (first ∷ rest) apart = go (left first) (apart_filter left rest apart.1)
  where
    go : (b : Bool) → AreApart (filter left rest) → AreApart (cond b (first ∷ filter left rest) (filter left rest))
    go true later = (any_filter (is_for_place (place_of first.entry)) left rest apart.0, later)
    go false later = later

pub apart_push : (grants : List Grant) (grant : Grant) → AreApart grants → list_any (is_for_place (place_of grant.entry)) grants ≡ false → AreApart (grants ++ grant ∷ [])
apart_push [] grant apart none = (refl, tt)
apart_push (first ∷ rest) grant apart none =
    let both = or_parts (is_for_place (place_of grant.entry) first) (list_any (is_for_place (place_of grant.entry)) rest) none in
    (none_push rest grant (is_for_place (place_of first.entry)) apart.0 (not_same first grant both.0), apart_push rest grant apart.1 both.1)
  where
    not_same : (one other : Grant) → is_for_place (place_of other.entry) one ≡ false → is_for_place (place_of one.entry) other ≡ false
    not_same one other e = ne_eqb (place_of other.entry) (place_of one.entry) (λ same. both_ways (is_for_place (place_of other.entry) one) e (eq-eqb (place_of one.entry) (place_of other.entry) (sym same)))

    none_push : (some : List Grant) (new : Grant) (test : Grant → Bool) → list_any test some ≡ false → test new ≡ false → list_any test (some ++ new ∷ []) ≡ false
    none_push [] new test a b = or_from (test new) false b refl
    none_push (x ∷ xs) new test a b =
        let parts = or_parts (test x) (list_any test xs) a in
        or_from (test x) (list_any test (xs ++ new ∷ [])) parts.0 (none_push xs new test parts.1 b)

-- of leases apart, the one that is found in its place
pub find_apart : (grants : List Grant) (grant : Grant) → AreApart grants → Among grant grants → find (is_for_place (place_of grant.entry)) grants ≡ Some grant
find_apart [] grant apart m = elim m [ ]
find_apart (first ∷ rest) grant apart (inl e) =
    ap (λ b. cond b (Some first) (find (is_for_place (place_of grant.entry)) rest)) (eq-eqb (place_of first.entry) (place_of grant.entry) (ap (λ (g : Grant). place_of g.entry) e))
    ∙ ap (λ g. Some g) e
find_apart (first ∷ rest) grant apart (inr m) =
    ap (λ b. cond b (Some first) (find (is_for_place (place_of grant.entry)) rest))
    (ne_eqb (place_of first.entry) (place_of grant.entry) (λ same. both_ways (list_any (is_for_place (place_of first.entry)) rest) apart.0
    (among_any (is_for_place (place_of first.entry)) rest grant m (eq-eqb (place_of grant.entry) (place_of first.entry) (sym same)))))
    ∙ find_apart rest grant apart.1 m

-- what a filter leaves in a place
pub find_filter : (left : Grant → Bool) (place : ℕ) (grants : List Grant) → AreApart grants → find (is_for_place place) (filter left grants) ≡ keep_if left (find (is_for_place place) grants)
find_filter left place [] apart = refl
find_filter left place (first ∷ rest) apart = go (left first) refl (is_for_place place first) refl (find_filter left place rest apart.1)
  where
    none_later : is_for_place place first ≡ true → find (is_for_place place) (filter left rest) ≡ None
    none_later here = find_none (is_for_place place) (filter left rest) (any_filter (is_for_place place) left rest
        (ap (λ n. list_any (is_for_place n) rest) (sym (eqb-true (place_of first.entry) place here)) ∙ apart.0))

    go : (b : Bool) → left first ≡ b → (here : Bool) → is_for_place place first ≡ here → find (is_for_place place) (filter left rest) ≡ keep_if left (find (is_for_place place) rest)
        → find (is_for_place place) (cond b (first ∷ filter left rest) (filter left rest)) ≡ keep_if left (cond here (Some first) (find (is_for_place place) rest))
    go true e true h later = ap (λ v. cond v (Some first) (find (is_for_place place) (filter left rest))) h ∙ sym (ap (λ v. cond v (Some first) None) e)
    go true e false h later = ap (λ v. cond v (Some first) (find (is_for_place place) (filter left rest))) h ∙ later
    go false e true h later = none_later h ∙ sym (ap (λ v. cond v (Some first) None) e)
    go false e false h later = later

-- the lease of a number, in leases that are numbered in turn
pub find_numbered : (number : ℕ) (grants : List Grant) (k : ℕ) (d : Grant) → AreNumberedFrom number grants → k < length grants → find (is_numbered (number + k)) grants ≡ Some (get_or grants k d)
find_numbered number [] k d n l = absurd (omega arith)
find_numbered number (first ∷ rest) zero d n l =
    ap (λ b. cond b (Some first) (find (is_numbered (number + zero)) rest)) (eq-eqb first.lease (number + zero) (omega (arith, n.0)))
find_numbered number (first ∷ rest) (suc k) d n l =
    let e : number + suc k ≡ suc number + k = omega arith in
    ap (λ b. cond b (Some first) (find (is_numbered (number + suc k)) rest)) (ne_eqb first.lease (number + suc k) (λ same. omega (arith, n.0, same)))
    ∙ ap (λ m. find (is_numbered m) rest) e
    ∙ find_numbered (suc number) rest k d n.1 (omega arith)

pub find_below : (number : ℕ) (grants : List Grant) (lease : ℕ) → AreNumberedFrom number grants → lease < number → find (is_numbered lease) grants ≡ None
find_below number [] lease n l = refl
find_below number (first ∷ rest) lease n l =
    ap (λ b. cond b (Some first) (find (is_numbered lease) rest)) (ne_eqb first.lease lease (λ same. omega (arith, n.0, same)))
    ∙ find_below (suc number) rest lease n.1 (omega arith)

pub find_above : (number : ℕ) (grants : List Grant) (lease : ℕ) → AreNumberedFrom number grants → number + length grants ≤ lease → find (is_numbered lease) grants ≡ None
find_above number [] lease n l = refl
find_above number (first ∷ rest) lease n l =
    ap (λ b. cond b (Some first) (find (is_numbered lease) rest)) (ne_eqb first.lease lease (λ same. omega (arith, n.0, same)))
    ∙ find_above (suc number) rest lease n.1 (omega arith)

pub numbered_push : (number : ℕ) (grants : List Grant) (grant : Grant) → AreNumberedFrom number grants → grant.lease ≡ number + length grants → AreNumberedFrom number (grants ++ grant ∷ [])
numbered_push number [] grant n e = (omega (arith, e), tt)
numbered_push number (first ∷ rest) grant n e = (n.0, numbered_push (suc number) rest grant n.1 (omega (arith, e)))

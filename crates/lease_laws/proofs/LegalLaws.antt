-- What holds of every legal history.
use Rattle.std.proofs.Common.{◌≡◌, ℕ, zero, suc, ◌+◌, ◌*◌, ◌/◌, ◌<◌, ◌≤◌, ◌≢◌, Bool, true, false, not, cond, List, [], ◌∷◌, length, count_by, Some, refl, sym, ◌∙◌, ap, subst, ◌⊎◌, inl, inr, ⊎_elim, arith}
use Rattle.std.specs.List.{filter}
use Rattle.std.proofs.Math.Nat.{mul-suc}
use Rattle.std.proofs.lemmas.Bool.{both_ways, cases_eq, eqb-true, eq-eqb, not-true, false_from_ne_true}
use Rattle.std.proofs.lemmas.List.Sums.{sum_by-cons}
use Rattle.pbn_deals.specs.declared.boards.Board.{Board}
use Rattle.lease_book.specs.declared.entries.Entry.{Entry}
use Rattle.lease_book.specs.declared.events.Grant.{Grant}
use Rattle.lease_book.specs.declared.events.Asked.{Asked}
use Rattle.lease_book.specs.declared.events.Asked.TheVariants.{Lease, Expire, GiveUp, HandIn}
use Rattle.lease_book.specs.declared.events.Reply.{Reply}
use Rattle.lease_book.specs.declared.events.Reply.TheVariants.{Given, Nothing}
use Rattle.lease_book.specs.declared.events.Event.{Event}
use Rattle.lease_book.specs.Entries.{place_of}
use Rattle.lease_book.specs.Twins.{IsLeastTwin, is_first}
use Rattle.lease_laws.specs.Twins.{deals_before, deal_count}
use Rattle.lease_book.specs.Histories.{Terms, given_in, grant_of, is_numbered, is_for_place, is_open}
use Rattle.lease_book.specs.Replies.{IsLeaseReply, IsReply, IsLegal}
use Rattle.lease_book.specs.Keeping.{Among}
use Rattle.lease_book.proofs.EntryLaws.{same_entry, board_of, contract_below}
use Rattle.lease_book.proofs.HeldLaws.{find_among}
use Rattle.lease_book.proofs.LegalLaws.{firsts, times_few}
use Rattle.lease_book.proofs.TwinLaws.{first_deal, first_there, least_of, twin_itself}

-- ---- one reply
given_same : (lease lease' : ℕ) (entry entry' : Entry) (deadline deadline' : ℕ) → lease ≡ lease' → entry ≡ entry' → deadline ≡ deadline' → Given lease entry deadline ≡ Given lease' entry' deadline'
given_same lease lease' entry entry' deadline deadline' l e d =
    ap (λ (x : ℕ). Given x entry deadline) l ∙ ap (λ (x : Entry). Given lease' x deadline) e ∙ ap (λ (x : ℕ). Given lease' entry' x) d

one_lease_reply : (terms : Terms) (before : List Event) (now : ℕ) (one other : Reply) → IsLeaseReply terms before now one → IsLeaseReply terms before now other → one ≡ other
one_lease_reply terms before now (Given lease entry deadline) (Given lease' entry' deadline') h g =
    given_same lease lease' entry entry' deadline deadline' (h.next ∙ sym g.next)
    (same_entry entry entry' (omega (arith, h.least entry' g.ready, g.least entry h.ready)))
    (h.until ∙ sym g.until)
one_lease_reply terms before now (Given lease entry deadline) Nothing h g = absurd (both_ways (is_open terms before entry) (g entry) h.ready)
one_lease_reply terms before now (Given lease entry deadline) other h g = absurd g
one_lease_reply terms before now Nothing (Given lease entry deadline) h g = absurd (both_ways (is_open terms before entry) (h entry) g.ready)
one_lease_reply terms before now Nothing Nothing h g = refl
one_lease_reply terms before now Nothing other h g = absurd g
one_lease_reply terms before now one other h g = absurd h

pub one_reply : (terms : Terms) (before : List Event) (asked : Asked) (one other : Reply) → IsReply terms before asked one → IsReply terms before asked other → one ≡ other
one_reply terms before (Lease now) one other h g = one_lease_reply terms before now one other h g
one_reply terms before (Expire now) one other h g = h ∙ sym g
one_reply terms before (GiveUp lease) one other h g = h ∙ sym g
one_reply terms before (HandIn lease entry evidence) one other h g = h ∙ sym g

-- ---- leases of least twins
-- an entry of a first board is its own least twin
least_itself : (boards : List Board) (entry : Entry) → is_first boards entry.board ≡ true → IsLeastTwin boards entry entry
least_itself boards entry first =
    let deal = first_deal boards entry.board first in
    subst (λ (twin : Entry). IsLeastTwin boards entry twin) (twin_itself boards entry first) (least_of boards entry deal.0 deal.1)

pub leases_least : (terms : Terms) (events : List Event) (lease : ℕ) (grant : Grant) → IsLegal terms events → grant_of events lease ≡ Some grant → IsLeastTwin terms.boards grant.entry grant.entry
leases_least terms events lease grant legal given =
    least_itself terms.boards grant.entry (firsts terms events legal grant (find_among (is_numbered lease) (given_in events) grant given).0)

-- ---- few leases
passes_filter : (test : Grant → Bool) (grants : List Grant) (grant : Grant) → Among grant (filter test grants) → Among grant grants × (test grant ≡ true)
passes_filter test [] grant m = elim m [ ]
passes_filter test (first ∷ rest) grant m = go (test first) refl (passes_filter test rest grant) m
  where
    go : (b : Bool) → test first ≡ b → (Among grant (filter test rest) → Among grant rest × (test grant ≡ true)) → Among grant (cond b (first ∷ filter test rest) (filter test rest)) → Among grant (first ∷ rest) × (test grant ≡ true)
    go true h later (inl same) = (inl same, ap test (sym same) ∙ h)
    go true h later (inr m) = let found = later m in (inr found.0, found.1)
    go false h later m = let found = later m in (inr found.0, found.1)

-- a filter leaves no more that pass another test
fewer_pass : (test left : Grant → Bool) (grants : List Grant) → count_by test (filter left grants) ≤ count_by test grants
fewer_pass test left [] = omega arith
fewer_pass test left (first ∷ rest) = go (left first) (fewer_pass test left rest) (sum_by-cons bit first rest) (sum_by-cons bit first (filter left rest))
  where
    bit : Grant → ℕ
    bit grant = cond (test grant) 1 0

    go : (b : Bool) → count_by test (filter left rest) ≤ count_by test rest → count_by test (first ∷ rest) ≡ bit first + count_by test rest → count_by test (first ∷ filter left rest) ≡ bit first + count_by test (filter left rest)
        → count_by test (cond b (first ∷ filter left rest) (filter left rest)) ≤ count_by test (first ∷ rest)
    go true later all some = omega (arith, later, all, some)
    go false later all some = omega (arith, later, all, some)

split_by : (test : Grant → Bool) (grants : List Grant) → length grants ≡ count_by test grants + length (filter (λ grant. not (test grant)) grants)
split_by test [] = refl
split_by test (first ∷ rest) = go (test first) refl (split_by test rest) (sum_by-cons (λ (grant : Grant). cond (test grant) 1 0) first rest)
  where
    go : (b : Bool) → test first ≡ b → length rest ≡ count_by test rest + length (filter (λ grant. not (test grant)) rest)
        → count_by test (first ∷ rest) ≡ cond (test first) 1 0 + count_by test rest
        → length (first ∷ rest) ≡ count_by test (first ∷ rest) + length (cond (not b) (first ∷ filter (λ grant. not (test grant)) rest) (filter (λ grant. not (test grant)) rest))
    go true h later all = omega (arith, later, all, ap {B = ℕ} (λ b. cond b 1 0) h)
    go false h later all = omega (arith, later, all, ap {B = ℕ} (λ b. cond b 1 0) h)

none_pass : (test : Grant → Bool) (grants : List Grant) → ((grant : Grant) → Among grant grants → test grant ≡ false) → count_by test grants ≡ 0
none_pass test [] none = refl
none_pass test (first ∷ rest) none =
    sum_by-cons (λ (grant : Grant). cond (test grant) 1 0) first rest
    ∙ ap (λ b. cond b 1 0 + count_by test rest) (none first (inl refl))
    ∙ omega (arith, none_pass test rest (λ grant m. none grant (inr m)))

-- how many of the places before one are those of first boards
abbrev places_before : List Board → ℕ → ℕ
places_before boards zero = 0
places_before boards (suc place) = places_before boards place + cond (is_first boards (place / 20)) 1 0

few_in_places : (boards : List Board) (places tries : ℕ) (grants : List Grant) → ((grant : Grant) → Among grant grants → place_of grant.entry < places) → ((place : ℕ) → count_by (is_for_place place) grants ≤ tries)
    → ((grant : Grant) → Among grant grants → is_first boards grant.entry.board ≡ true) → length grants ≤ tries * places_before boards places
few_in_places boards zero tries [] there times are = omega arith
few_in_places boards zero tries (first ∷ rest) there times are = absurd (omega (arith, there first (inl refl)))
few_in_places boards (suc places) tries grants there times are =
    let elsewhere = filter (λ grant. not (is_for_place places grant)) grants in
    let others = few_in_places boards places tries elsewhere (λ grant m. below grant (left grant m)) (λ place. omega (arith, fewer_pass (is_for_place place) (λ grant. not (is_for_place places grant)) grants, times place)) (λ grant m. are grant (left grant m).0) in
    by_first (is_first boards (places / 20)) refl others
  where
    left : (grant : Grant) → Among grant (filter (λ other. not (is_for_place places other)) grants) → Among grant grants × (not (is_for_place places grant) ≡ true)
    left grant m = passes_filter (λ other. not (is_for_place places other)) grants grant m

    below : (grant : Grant) → Among grant grants × (not (is_for_place places grant) ≡ true) → place_of grant.entry < places
    below grant (m, other) =
        ⊎_elim
        (λ (same : place_of grant.entry ≡ places). absurd (both_ways (is_for_place places grant) (not-true (is_for_place places grant) other) (eq-eqb (place_of grant.entry) places same)))
        (λ (ne : place_of grant.entry ≢ places). omega (arith, there grant m, ne))
        (cases_eq (place_of grant.entry) places)

    -- no lease is for a place of another board
    none_here : is_first boards (places / 20) ≡ false → (grant : Grant) → Among grant grants → is_for_place places grant ≡ false
    none_here other grant m =
        false_from_ne_true (is_for_place places grant)
        (λ h. let board : grant.entry.board ≡ places / 20 = sym (board_of grant.entry) ∙ ap (λ n. n / 20) (eqb-true (place_of grant.entry) places h) in
        both_ways (is_first boards (places / 20)) other (ap (is_first boards) (sym board) ∙ are grant m))

    by_first : (first : Bool) → is_first boards (places / 20) ≡ first → length (filter (λ grant. not (is_for_place places grant)) grants) ≤ tries * places_before boards places → length grants ≤ tries * (places_before boards places + cond first 1 0)
    by_first true e others =
        let all = places_before boards places in
        let more : all + 1 ≡ suc all = omega arith in
        omega (arith, others, split_by (is_for_place places) grants, times places, mul-suc tries all, ap (λ n. tries * n) more)
    by_first false e others =
        let all = places_before boards places in
        let same : all + 0 ≡ all = omega arith in
        omega (arith, others, split_by (is_for_place places) grants, none_pass (is_for_place places) grants (none_here e), ap (λ n. tries * n) same)

-- a first board has twenty of them
module _ (boards : List Board) (number : ℕ) where
  some_places : (k : ℕ) → k ≤ 20 → places_before boards (20 * number + k) ≡ places_before boards (20 * number) + cond (is_first boards number) k 0
  some_places zero l =
      let e : 20 * number + zero ≡ 20 * number = omega arith in
      ap (places_before boards) e ∙ by_first (is_first boards number)
    where
      by_first : (first : Bool) → places_before boards (20 * number) ≡ places_before boards (20 * number) + cond first zero 0
      by_first true = omega arith
      by_first false = omega arith
  some_places (suc k) l =
      let e : 20 * number + suc k ≡ suc (20 * number + k) = omega arith in
      let board : (20 * number + k) / 20 ≡ number = omega (arith, l) in
      ap (places_before boards) e
      ∙ ap (λ n. places_before boards (20 * number + k) + cond (is_first boards n) 1 0) board
      ∙ by_first (is_first boards number) (some_places k (omega (arith, l)))
    where
      by_first : (first : Bool) → places_before boards (20 * number + k) ≡ places_before boards (20 * number) + cond first k 0
          → places_before boards (20 * number + k) + cond first 1 0 ≡ places_before boards (20 * number) + cond first (suc k) 0
      by_first true before = omega (arith, before)
      by_first false before = omega (arith, before)

twenty_each : (boards : List Board) (number : ℕ) → places_before boards (20 * number) ≡ 20 * deals_before boards number
twenty_each boards zero = refl
twenty_each boards (suc number) =
    let e : 20 * suc number ≡ 20 * number + 20 = omega arith in
    ap (places_before boards) e ∙ some_places boards number 20 (omega arith) ∙ by_first (is_first boards number) (twenty_each boards number)
  where
    by_first : (first : Bool) → places_before boards (20 * number) ≡ 20 * deals_before boards number
        → places_before boards (20 * number) + cond first 20 0 ≡ 20 * (deals_before boards number + cond first 1 0)
    by_first true before = omega (arith, before)
    by_first false before = omega (arith, before)

pub few_leases : (terms : Terms) (events : List Event) → IsLegal terms events → length (given_in events) ≤ terms.tries * (20 * deal_count terms.boards)
few_leases terms events legal =
    let first : (grant : Grant) → Among grant (given_in events) → is_first terms.boards grant.entry.board ≡ true = firsts terms events legal in
    let there : (grant : Grant) → Among grant (given_in events) → place_of grant.entry < 20 * length terms.boards =
    λ grant m. omega (arith, first_there terms.boards grant.entry.board (first grant m), contract_below grant.entry.declarer grant.entry.trump) in
    let few_places = few_in_places terms.boards (20 * length terms.boards) terms.tries (given_in events) there (times_few terms events legal) first in
    omega (arith, few_places, ap (λ n. terms.tries * n) (twenty_each terms.boards (length terms.boards)))

-- A sum over the events of a closed history is one over the receipts of its chairs.
use Rattle.std.proofs.Common.{◌≡◌, ℕ, zero, suc, ◌+◌, ◌*◌, ◌<◌, cond, List, [], ◌∷◌, ◌++◌, map, All, Some, length, sum_by, count_by, refl, sym, ap, ◌∙◌, arith}
use Rattle.std.specs.Prelude.{nat_eq, slice_get}
use Rattle.std.proofs.Math.Nat.{add-mul}
use Rattle.std.proofs.Math.Dec.{eqb-zero-suc, eqb-suc-zero, eqb-suc-suc}
use Rattle.std.proofs.lemmas.Option.{none-some, same_Some}
use Rattle.std.proofs.lemmas.List.Elements.{All-head, All-tail}
use Rattle.std.proofs.lemmas.List.{length-append}
use Rattle.std.proofs.lemmas.List.Sums.{sum_by-cons}
use Rattle.lease_book.specs.declared.events.Event.{Event}
use Rattle.lease_book.specs.Histories.{Terms}
use Rattle.lease_book.specs.Books.{Ledger}
use Rattle.lease_desk.specs.declared.receipts.Receipt.{Receipt}
use Rattle.lease_desk.specs.declared.chairs.Chair.{Chair}
use Rattle.lease_desk.specs.Receipts.{Stands, is_for}
use Rattle.lease_desk.specs.Desks.{IsClosed, shown_of, receipts_in, receipts_for}

module _ (f : Event → ℕ) where
  -- the events, each as often as the number of its place
  abbrev weighed : (ℕ → ℕ) → List Event → ℕ
  weighed often [] = 0
  weighed often (e ∷ es) = often 0 * f e + weighed (λ k. often (suc k)) es

  weighed-same : (often other : ℕ → ℕ) (es : List Event) → ((k : ℕ) → k < length es → often k ≡ other k) → weighed often es ≡ weighed other es
  weighed-same often other [] same = refl
  weighed-same often other (e ∷ es) same =
      let here = same 0 (omega arith) in
      let rest = weighed-same (λ k. often (suc k)) (λ k. other (suc k)) es (λ k within. same (suc k) (omega arith)) in
      λ i. here i * f e + rest i

  weighed-none : (es : List Event) → weighed (λ k. 0) es ≡ 0
  weighed-none [] = refl
  weighed-none (e ∷ es) = let rest = weighed-none es in omega arith

  weighed-ones : (es : List Event) → weighed (λ k. 1) es ≡ sum_by f es
  weighed-ones [] = refl
  weighed-ones (e ∷ es) = let rest = weighed-ones es in omega (arith, sum_by-cons f e es)

  weighed-add : (often more : ℕ → ℕ) (es : List Event) → weighed (λ k. often k + more k) es ≡ weighed often es + weighed more es
  weighed-add often more [] = refl
  weighed-add often more (e ∷ es) =
      let here = add-mul (often 0) (more 0) (f e) in
      let rest = weighed-add (λ k. often (suc k)) (λ k. more (suc k)) es in
      omega arith

  weighed-append : (often : ℕ → ℕ) (xs ys : List Event) → weighed often (xs ++ ys) ≡ weighed often xs + weighed (λ k. often (length xs + k)) ys
  weighed-append often [] ys =
      let same = weighed-same often (λ k. often (0 + k)) ys (λ k within. let e : k ≡ 0 + k = omega arith in ap often e) in
      omega arith
  weighed-append often (x ∷ xs) ys =
      let rest = weighed-append (λ k. often (suc k)) xs ys in
      let same = weighed-same (λ k. often (suc (length xs + k))) (λ k. often (length (x ∷ xs) + k)) ys (λ k within. let e : suc (length xs + k) ≡ length (x ∷ xs) + k = omega arith in ap often e) in
      omega arith

  weighed-one : (place : ℕ) (es : List Event) (event : Event) → slice_get es place ≡ Some event → weighed (λ k. cond (nat_eq place k) 1 0) es ≡ f event
  weighed-one place [] event stands = absurd (none-some event stands)
  weighed-one zero (e ∷ es) event stands =
      let later = weighed-same (λ k. cond (nat_eq 0 (suc k)) 1 0) (λ k. 0) es (λ k within. ap (λ b. cond b 1 0) (eqb-zero-suc k)) in
      let none = weighed-none es in
      let same = ap f (same_Some e event stands) in
      omega arith
  weighed-one (suc place) (e ∷ es) event stands =
      let here = ap (λ b. cond b 1 0 * f e) (eqb-suc-zero place) in
      let later = weighed-same (λ k. cond (nat_eq (suc place) (suc k)) 1 0) (λ k. cond (nat_eq place k) 1 0) es (λ k within. ap (λ b. cond b 1 0) (eqb-suc-suc place k)) in
      let rest = weighed-one place es event stands in
      omega arith

  of_receipts : (events : List Event) (receipts : List Receipt) → All (Stands events) receipts → sum_by (λ (r : Receipt). f r.event) receipts ≡ weighed (λ k. count_by (is_for k) receipts) events
  of_receipts events [] all = sym (weighed-none events)
  of_receipts events (r ∷ rs) all =
      let one = weighed-one r.place events r.event (All-head (Stands events) r rs all) in
      let rest = of_receipts events rs (All-tail (Stands events) r rs all) in
      let both = weighed-add (λ k. cond (nat_eq r.place k) 1 0) (λ k. count_by (is_for k) rs) events in
      let same = weighed-same (λ k. count_by (is_for k) (r ∷ rs)) (λ k. cond (nat_eq r.place k) 1 0 + count_by (is_for k) rs) events (λ k within. sum_by-cons (λ (x : Receipt). cond (is_for k x) 1 0) r rs) in
      let cut = sum_by-cons (λ (x : Receipt). f x.event) r rs in
      omega arith

  abbrev AllStand : List Event → Chair → Type 0
  AllStand events chair = All (Stands events) (receipts_in chair)

  of_chairs : (events : List Event) (chairs : List Chair) → All (AllStand events) chairs → sum_by (λ (c : Chair). sum_by (λ (r : Receipt). f r.event) (receipts_in c)) chairs ≡ weighed (λ k. receipts_for k chairs) events
  of_chairs events [] all = sym (weighed-none events)
  of_chairs events (c ∷ cs) all =
      let one = of_receipts events (receipts_in c) (All-head (AllStand events) c cs all) in
      let rest = of_chairs events cs (All-tail (AllStand events) c cs all) in
      let both = weighed-add (λ k. count_by (is_for k) (receipts_in c)) (λ k. receipts_for k cs) events in
      let same = weighed-same (λ k. receipts_for k (c ∷ cs)) (λ k. count_by (is_for k) (receipts_in c) + receipts_for k cs) events (λ k within. sum_by-cons (λ (x : Chair). count_by (is_for k) (receipts_in x)) c cs) in
      let cut = sum_by-cons (λ (x : Chair). sum_by (λ (r : Receipt). f r.event) (receipts_in x)) c cs in
      omega arith

  abbrev of_shown : ℕ × List Receipt → ℕ
  of_shown shown = sum_by (λ (r : Receipt). f r.event) shown.1

  shown_sum : (chairs : List Chair) → sum_by of_shown (map shown_of chairs) ≡ sum_by (λ (c : Chair). sum_by (λ (r : Receipt). f r.event) (receipts_in c)) chairs
  shown_sum [] = refl
  shown_sum (c ∷ cs) =
      let rest = shown_sum cs in
      let one = sum_by-cons of_shown (shown_of c) (map shown_of cs) in
      let cut = sum_by-cons (λ (x : Chair). sum_by (λ (r : Receipt). f r.event) (receipts_in x)) c cs in
      omega arith

  -- the events since the desk was opened
  pub of_closed : (terms : Terms) (start : List Event) (chairs closed : List Chair) (book : Ledger) (is : IsClosed terms start chairs book closed) → sum_by f is.later ≡ sum_by (λ (c : Chair). sum_by (λ (r : Receipt). f r.event) (receipts_in c)) chairs
  of_closed terms start chairs closed book is =
      let often : ℕ → ℕ = λ k. receipts_for k closed in
      let whole = ap (weighed often) is.events_are ∙ weighed-append often start is.later in
      let long = ap (λ (l : List Event). length l) is.events_are in
      let both = length-append start is.later in
      let none = weighed-same often (λ k. 0) start is.none in
      let nothing = weighed-none start in
      let once = weighed-same (λ k. often (length start + k)) (λ k. 1) is.later (λ k within. is.once (length start + k) (omega arith) (omega arith)) in
      let ones = weighed-ones is.later in
      let chairs' = of_chairs book.events closed is.stand in
      let old = shown_sum chairs in
      let new = shown_sum closed in
      let same = ap (sum_by of_shown) is.same in
      omega arith

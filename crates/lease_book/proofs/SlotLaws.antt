-- The slots and the rows beside them.
use Rattle.std.proofs.Common.{◌≡◌, ℕ, zero, suc, ◌+◌, ◌-◌, ◌<◌, ◌≤◌, ◌≢◌, Bool, true, false, cond, List, ◌∷◌, length, map, get_or, set, take, take_all, replicate, count_by, Option, None, Some, MatchOption, refl, sym, ◌∙◌, ap, ⊎_elim, arith}
use Rattle.std.proofs.lemmas.List.{get_or-map, length-map, same_lists, get_or-set_same, get_or-set_other}
use Rattle.std.proofs.lemmas.Bool.{cases_eq, cases_lt, cond-true, cond-false}
use Rattle.std.proofs.lemmas.List.Sums.{count_by_more_no, count_by_more_yes}
use Rattle.due_rows.specs.Moments.{is_due, moment_at, NoneIsDue, IsFirstDue}
use Rattle.lease_book.specs.declared.slots.Slot.{Slot}
use Rattle.lease_book.specs.Slots.{opening_of, is_open_slot, is_past_slot, NonePasses, IsFirst, freed, freed_if_past}

pub no_slot : Slot
no_slot = record { published = None; holder = None; left = 0 }

pub opening_is_due : (slot : Slot) → is_due 0 (opening_of slot) ≡ is_open_slot slot
opening_is_due slot = go (is_open_slot slot)
  where
    go : (b : Bool) → is_due 0 (cond b (Some 0) None) ≡ b
    go true = refl
    go false = refl

module _ (test : Slot → Bool) (moment : Slot → Option ℕ) (now : ℕ) (agree : (slot : Slot) → is_due now (moment slot) ≡ test slot) (row : List (Option ℕ)) (slots : List Slot) (is_row : row ≡ map moment slots) where
  in_row : (place : ℕ) (d : Slot) → place < length slots → is_due now (moment_at row place) ≡ test (get_or slots place d)
  in_row place d l =
      ap (λ (r : List (Option ℕ)). is_due now (moment_at r place)) is_row
      ∙ ap (is_due now) (get_or-map moment slots place d None l)
      ∙ agree (get_or slots place d)

  same_length : length row ≡ length slots
  same_length = ap length is_row ∙ length-map slots moment

  -- what the row finds is the first slot
  pub first_in_row : (from : ℕ) (found : Option ℕ) → MatchOption found (NoneIsDue now from (length row) row) (IsFirstDue now from (length row) row) → MatchOption found (NonePasses test from slots) (IsFirst test from slots)
  first_in_row from None none = λ place d h l. sym (in_row place d l) ∙ none place h (omega (arith, same_length))
  first_in_row from (Some place) first =
      let l : place < length slots = omega (arith, first.before_the_end, same_length) in
      record {
        from_on = first.from_on;
        within = l;
        passes = λ d. sym (in_row place d l) ∙ first.due;
        first = λ other d h o. let m : other < length slots = omega arith in sym (in_row other d m) ∙ first.first other h o;
      }

-- slots that don't pass add nothing to a count
pub count_none : (test : Slot → Bool) (slots : List Slot) (from more : ℕ) → ((place : ℕ) (d : Slot) → from ≤ place → place < from + more → test (get_or slots place d) ≡ false) → from + more ≤ length slots → count_by test (take (from + more) slots) ≡ count_by test (take from slots)
count_none test slots from zero none l = let e : from + zero ≡ from = omega arith in ap (λ n. count_by test (take n slots)) e
count_none test slots from (suc more) none l =
    let e : from + suc more ≡ (from + more) + 1 = omega arith in
    ap (λ n. count_by test (take n slots)) e
    ∙ count_by_more_no test slots (from + more) no_slot (omega arith) (none (from + more) no_slot (omega arith) (omega arith))
    ∙ count_none test slots from more (λ place d h k. none place d h (omega arith)) (omega arith)

pub count_up_to : (test : Slot → Bool) (slots : List Slot) (from place : ℕ) → from ≤ place → place ≤ length slots → ((other : ℕ) (d : Slot) → from ≤ other → other < place → test (get_or slots other d) ≡ false) → count_by test (take place slots) ≡ count_by test (take from slots)
count_up_to test slots from place h l none =
    let e : place ≡ from + (place - from) = omega arith in
    ap (λ n. count_by test (take n slots)) e ∙ count_none test slots from (place - from) (λ other d k m. none other d k (omega arith)) (omega arith)

-- one step of a sweep that frees what is past
module _ (now : ℕ) (before slots : List Slot) (from place : ℕ) (slot : Slot)
    (done : (other : ℕ) (d : Slot) → other < from → get_or slots other d ≡ freed_if_past now (get_or before other d))
    (rest : (other : ℕ) (d : Slot) → from ≤ other → get_or slots other d ≡ get_or before other d)
    (first : IsFirst (is_past_slot now) from slots place)
    (is_slot : (d : Slot) → slot ≡ get_or slots place d) where
  not_past : (other : ℕ) (d : Slot) → from ≤ other → other < place → is_past_slot now (get_or before other d) ≡ false
  not_past other d h l = ap (is_past_slot now) (sym (rest other d h)) ∙ first.first other d h l

  pub swept_done : (other : ℕ) (d : Slot) → other < place + 1 → get_or (set slots place (freed slot)) other d ≡ freed_if_past now (get_or before other d)
  swept_done other d l =
      ⊎_elim
      (λ (e : other ≡ place).
      ap (λ n. get_or (set slots place (freed slot)) n d) e
      ∙ get_or-set_same slots place (freed slot) d first.within
      ∙ ap freed (is_slot d ∙ rest place d first.from_on)
      ∙ sym (cond-true (is_past_slot now (get_or before place d)) (freed (get_or before place d)) (get_or before place d) (ap (is_past_slot now) (sym (rest place d first.from_on)) ∙ first.passes d))
      ∙ ap (λ n. freed_if_past now (get_or before n d)) (sym e))
      (λ (ne : other ≢ place).
      get_or-set_other slots place other (freed slot) d ne
      ∙ ⊎_elim
      (λ (h : other < from). done other d h)
      (λ (h : from ≤ other). rest other d h ∙ sym (cond-false (is_past_slot now (get_or before other d)) (freed (get_or before other d)) (get_or before other d) (not_past other d h (omega arith))))
      (cases_lt other from))
      (cases_eq other place)

  pub swept_rest : (other : ℕ) (d : Slot) → place + 1 ≤ other → get_or (set slots place (freed slot)) other d ≡ get_or before other d
  swept_rest other d l =
      let ne : other ≢ place = omega arith in
      get_or-set_other slots place other (freed slot) d ne ∙ rest other d (omega (arith, first.from_on))

  pub swept_count : place < length before → count_by (is_past_slot now) (take (place + 1) before) ≡ count_by (is_past_slot now) (take from before) + 1
  swept_count l =
      count_by_more_yes (is_past_slot now) before place no_slot l (ap (is_past_slot now) (sym (rest place no_slot first.from_on)) ∙ first.passes no_slot)
      ∙ ap (λ n. n + 1) (count_up_to (is_past_slot now) before from place first.from_on (omega arith) not_past)

-- a sweep at its end
module _ (now : ℕ) (before slots : List Slot) (from : ℕ)
    (done : (other : ℕ) (d : Slot) → other < from → get_or slots other d ≡ freed_if_past now (get_or before other d))
    (rest : (other : ℕ) (d : Slot) → from ≤ other → get_or slots other d ≡ get_or before other d)
    (none : NonePasses (is_past_slot now) from slots)
    (same : length slots ≡ length before) where
  none_before : (other : ℕ) (d : Slot) → from ≤ other → other < length slots → is_past_slot now (get_or before other d) ≡ false
  none_before other d h l = ap (is_past_slot now) (sym (rest other d h)) ∙ none other d h l

  swept_at : (other : ℕ) (d : Slot) → other < length slots → get_or slots other d ≡ freed_if_past now (get_or before other d)
  swept_at other d l =
      ⊎_elim
      (λ (h : other < from). done other d h)
      (λ (h : from ≤ other). rest other d h ∙ sym (cond-false (is_past_slot now (get_or before other d)) (freed (get_or before other d)) (get_or before other d) (none_before other d h l)))
      (cases_lt other from)

  pub swept_all : slots ≡ map (freed_if_past now) before
  swept_all =
      same_lists slots (map (freed_if_past now) before) (same ∙ sym (length-map before (freed_if_past now)))
      (λ other d l. swept_at other d l ∙ sym (get_or-map (freed_if_past now) before other d d (omega arith)))

  pub counted_all : from ≤ length before → count_by (is_past_slot now) (take from before) ≡ count_by (is_past_slot now) before
  counted_all h =
      sym (count_up_to (is_past_slot now) before from (length before) h (omega arith) (λ other d k l. none_before other d k (omega arith)))
      ∙ ap (count_by (is_past_slot now)) (take_all (length before) before (omega arith))

-- one more element is as it is to be
pub set_step : {X : Type 0} (some after : List X) (place : ℕ) (one : X) (wanted : ℕ → X) → after ≡ set some place one → place < length some → one ≡ wanted place
    → ((other : ℕ) (d : X) → other < place → get_or some other d ≡ wanted other) → (other : ℕ) (d : X) → other < place + 1 → get_or after other d ≡ wanted other
set_step {X} some after place one wanted a l is done other d h =
    ap (λ (all : List X). get_or all other d) a
    ∙ ⊎_elim
    (λ (e : other ≡ place). ap (λ n. get_or (set some place one) n d) e ∙ get_or-set_same some place one d l ∙ is ∙ ap wanted (sym e))
    (λ (ne : other ≢ place). get_or-set_other some place other one d ne ∙ done other d (omega arith))
    (cases_eq other place)

pub set_rest : (slots after : List Slot) (place : ℕ) (slot : Slot) → after ≡ set slots place slot → (other : ℕ) (d : Slot) → place + 1 ≤ other → get_or after other d ≡ get_or slots other d
set_rest slots after place slot a other d h =
    let ne : other ≢ place = omega arith in
    ap (λ (all : List Slot). get_or all other d) a ∙ get_or-set_other slots place other slot d ne

pub moments_none : (f : Slot → Option ℕ) (slot : Slot) (count : ℕ) → f slot ≡ None → replicate {A = Option ℕ} count None ≡ map f (replicate count slot)
moments_none f slot zero e = refl
moments_none f slot (suc count) e = ap (λ (o : Option ℕ). o ∷ replicate count None) (sym e) ∙ ap (λ (rest : List (Option ℕ)). f slot ∷ rest) (moments_none f slot count e)

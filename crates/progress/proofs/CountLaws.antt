-- What one result more, and one board more, does to the counts.
use Rattle.std.proofs.Common.{◌≡◌, ℕ, ◌+◌, ◌-◌, ◌*◌, ◌^◌, ◌<◌, ◌≤◌, min, Bool, true, false, cond, List, [], ◌∷◌, ◌++◌, length, get_or, take, is_some, count_by, sum_by, Option, None, Some, ◌⊎◌, inl, inr, ⊎_elim, refl, sym, ◌∙◌, ap, set, arith, get_or-set_same, get_or-set_other}
use Rattle.std.specs.Prelude.{nat_eq, nat_le, slice_get, slice_index, slice_index_or}
use Rattle.std.specs.List.{position_or_len}
use Rattle.std.proofs.lemmas.Bool.{cases_Bool, cases_eq, eqb-true, eq-eqb, ne_eqb, leb-true, leb-false, le-leb, lt-leb}
use Rattle.std.proofs.lemmas.List.{take_all}
use Rattle.std.proofs.lemmas.List.Sums.{sum_by-cons, sum_by_push, sum_by-le, count_by-le-length, count_by_more_yes, count_by_more_no}
use Rattle.std.proofs.lemmas.Option.{slice_get-get_or}
use Rattle.cards.specs.Deal.{Deal}
use Rattle.pbn_deals.specs.declared.boards.Board.{Board}
use Rattle.lease_book.specs.Books.{AreBoards}
use Rattle.lease_book.specs.Keeping.{AreFirsts}
use Rattle.lease_book.specs.Twins.{is_dealt, is_this_deal, first_with, deal_of}
use Rattle.lease_book.proofs.TwinLaws.{first_le, this_itself}
use Rattle.progress.specs.declared.counts.Counts.{Counts}
use Rattle.progress.specs.Counts.{is_first_with, with_one_more, sharing_count, results_of, result_count, finished_count, AreCounted}

-- the first board with the deal of this one is the one that is told
told_first : (boards : List Board) (number n : ℕ) (deal : Option Deal) → is_some deal ≡ true → is_first_with boards deal n ≡ nat_eq (first_with boards deal number) n
told_first boards number n None h = absurd (let no : false ≡ true = h in cc)
told_first boards number n (Some deal) h = refl

pub first_is_told : (boards : List Board) (firsts : List ℕ) (number n d : ℕ) (board : Board) → AreFirsts boards firsts → number < length boards → slice_get boards number ≡ Some board → is_some board.deal ≡ true
    → is_first_with boards board.deal n ≡ nat_eq (slice_index_or firsts number d) n
first_is_told boards firsts number n d board are within here dealt =
    let deal : deal_of boards number ≡ board.deal = rw here refl in
    told_first boards number n board.deal dealt
    ∙ ap (λ first. nat_eq first n) (ap (λ (x : Option Deal). first_with boards x number) (sym deal) ∙ sym (are.firsts_are number d within))

-- one board more, which has a deal, and one which has none
abbrev pub HaveShared : List Board → List ℕ → ℕ → Type 0
HaveShared boards sharing number = (place : ℕ) → place < 4096 → get_or sharing place 0 ≡ min (count_by (λ (board : Board). is_first_with boards board.deal place) (take number boards)) 65535

pub shared_more : (boards : List Board) (firsts sharing new : List ℕ) (number : ℕ) (board : Board) → AreFirsts boards firsts → number < length boards → board ≡ get_or boards number board → is_some board.deal ≡ true
    → ((place : ℕ) → place < 4096 → slice_index new place ≡ with_one_more sharing (slice_index_or firsts number 0) place) → HaveShared boards sharing number → HaveShared boards new (number + 1)
shared_more boards firsts sharing new number board are within here dealt more before = λ place below.
    let f = λ (x : Board). is_first_with boards x.deal place in
    let first = slice_index_or firsts number 0 in
    let told : f (get_or boards number board) ≡ nat_eq first place = ap f (sym here) ∙ first_is_told boards firsts number place 0 board are within (slice_get-get_or boards number board within ∙ ap Some (sym here)) dealt in
    let old : get_or sharing place 0 ≡ min (count_by f (take number boards)) 65535 = before place below in
    elim (cases_Bool (nat_eq first place)) [
      | inl same ↦
          let new_is : get_or new place 0 ≡ min (get_or sharing place 0 + 1) 65535 = rw same at (more place below) in
          omega (arith, old, new_is, count_by_more_yes f boards number board within (told ∙ same))
      | inr other ↦
          let new_is : get_or new place 0 ≡ get_or sharing place 0 = rw other at (more place below) in
          omega (arith, old, new_is, count_by_more_no f boards number board within (told ∙ other))
    ]

pub shared_as_before : (boards : List Board) (sharing : List ℕ) (number : ℕ) (board : Board) → number < length boards → board ≡ get_or boards number board → is_some board.deal ≡ false → HaveShared boards sharing number → HaveShared boards sharing (number + 1)
shared_as_before boards sharing number board within here none before = λ place below.
    let f = λ (x : Board). is_first_with boards x.deal place in
    let fails : f (get_or boards number board) ≡ false = ap f (sym here) ∙ not_first boards place board.deal none in
    omega (arith, before place below, count_by_more_no f boards number board within fails)
  where
    not_first : (boards : List Board) (place : ℕ) (deal : Option Deal) → is_some deal ≡ false → is_first_with boards deal place ≡ false
    not_first boards place None none = refl
    not_first boards place (Some deal) none = absurd (let e : true ≡ false = none in cc)

-- ---- sums over the same list
same_sums : {X : Type 0} (f g : X → ℕ) → ((x : X) → f x ≡ g x) → (xs : List X) → sum_by f xs ≡ sum_by g xs
same_sums f g same [] = refl
same_sums f g same (x ∷ xs) =
    let here = same x in
    let later = same_sums f g same xs in
    omega (arith, sum_by-cons f x xs, sum_by-cons g x xs, here, later)

added_sums : {X : Type 0} (f g : X → ℕ) (xs : List X) → sum_by (λ x. f x + g x) xs ≡ sum_by f xs + sum_by g xs
added_sums f g [] = refl
added_sums f g (x ∷ xs) =
    let later = added_sums f g xs in
    omega (arith, sum_by-cons (λ x. f x + g x) x xs, sum_by-cons f x xs, sum_by-cons g x xs, later)

-- ---- one result more
one_result : (boards : List Board) (published : List ℕ) (number : ℕ) (board : Board) → results_of boards (published ++ number ∷ []) board ≡ results_of boards published board + cond (is_first_with boards board.deal number) 1 0
one_result boards published number board = sum_by_push (λ other. cond (is_first_with boards board.deal other) 1 0) published number

-- it counts for the boards that share the deal
pub result_count-push : (boards : List Board) (published : List ℕ) (number : ℕ) → result_count boards (published ++ number ∷ []) ≡ result_count boards published + sharing_count boards number
result_count-push boards published number =
    let one : Board → ℕ = λ board. cond (is_first_with boards board.deal number) 1 0 in
    same_sums (results_of boards (published ++ number ∷ [])) (λ board. results_of boards published board + one board) (one_result boards published number) boards
    ∙ added_sums (results_of boards published) one boards

-- the results of a board are those that were published for the first with its deal
results_are : (boards : List Board) (published : List ℕ) (deal : Option Deal) (number : ℕ) → is_first_with boards deal number ≡ true → count_by (is_first_with boards deal) published ≡ count_by (nat_eq number) published
results_are boards published None number h = absurd (let no : false ≡ true = h in cc)
results_are boards published (Some deal) number h = ap (λ n. count_by (nat_eq n) published) (eqb-true (position_or_len (is_dealt deal) boards) number h)

abbrev one_if : Bool → ℕ
one_if b = cond b 1 0

at_nineteen : (before : ℕ) (more : Bool) → (more ≡ true → before ≡ 19) → one_if (nat_le 20 (before + one_if more)) ≡ one_if (nat_le 20 before) + one_if more
at_nineteen before true is = rw (is refl) refl
at_nineteen before false is = let same : before + 0 ≡ before = omega arith in rw same (omega arith)

not_at_nineteen : (before : ℕ) (more : Bool) → (more ≡ true → before ≡ 19 → ⊥) → one_if (nat_le 20 (before + one_if more)) ≡ one_if (nat_le 20 before)
not_at_nineteen before true other = ap one_if (go (cases_Bool (nat_le 20 before)))
  where
    go : (nat_le 20 before ≡ true) ⊎ (nat_le 20 before ≡ false) → nat_le 20 (before + 1) ≡ nat_le 20 before
    go (inl enough) = le-leb 20 (before + 1) (omega (arith, leb-true 20 before enough)) ∙ sym enough
    go (inr few) = lt-leb 20 (before + 1) (omega (arith, leb-false 20 before few, other refl)) ∙ sym few
not_at_nineteen before false other = let same : before + 0 ≡ before = omega arith in rw same refl

-- with the twentieth the boards that share the deal have all, and with no other
module _ (boards : List Board) (published : List ℕ) (number : ℕ) where
  finished_then : finished_count boards (published ++ number ∷ []) ≡ count_by (λ board. nat_le 20 (results_of boards published board + cond (is_first_with boards board.deal number) 1 0)) boards
  finished_then = same_sums _ _ (λ (board : Board). ap (λ n. cond (nat_le 20 n) 1 0) (one_result boards published number board)) boards

  pub finished_count-twentieth : count_by (nat_eq number) published ≡ 19 → finished_count boards (published ++ number ∷ []) ≡ finished_count boards published + sharing_count boards number
  finished_count-twentieth is =
      let one : Board → ℕ = λ board. cond (is_first_with boards board.deal number) 1 0 in
      let has : Board → ℕ = λ board. cond (nat_le 20 (results_of boards published board)) 1 0 in
      finished_then
      ∙ (same_sums _ (λ board. has board + one board) (λ board. at_nineteen (results_of boards published board) (is_first_with boards board.deal number) (λ h. results_are boards published board.deal number h ∙ is)) boards
      ∙ added_sums has one boards)

  pub finished_count-other : (count_by (nat_eq number) published ≡ 19 → ⊥) → finished_count boards (published ++ number ∷ []) ≡ finished_count boards published
  finished_count-other other =
      finished_then
      ∙ same_sums _ _ (λ (board : Board). not_at_nineteen (results_of boards published board) (is_first_with boards board.deal number) (λ h is. other (sym (results_are boards published board.deal number h) ∙ is))) boards

-- no board has a first one past all
pub none_past : (boards : List Board) (number : ℕ) → length boards ≤ number → sharing_count boards number ≡ 0
none_past boards number past =
    let none = sum_by-le (λ (board : Board). cond (is_first_with boards board.deal number) 1 0) 0 boards (λ k d within. at k d within (get_or boards k d).deal refl) in
    omega (arith, none)
  where
    at : (k : ℕ) (d : Board) → k < length boards → (deal : Option Deal) → (get_or boards k d).deal ≡ deal → cond (is_first_with boards deal number) 1 0 ≤ 0
    at k d within None is = omega arith
    at k d within (Some deal) is =
        let first = first_le (is_dealt deal) boards k (get_or boards k d) (slice_get-get_or boards k d within) (ap (is_this_deal deal) is ∙ this_itself deal) in
        let other = ne_eqb (position_or_len (is_dealt deal) boards) number (λ e. omega (arith, first, e, within, past)) in
        rw other (omega arith)

-- ---- the counts after one result more
kept_more : (number published_for : ℕ) (published : List ℕ) → count_by (nat_eq number) (published ++ published_for ∷ []) ≡ count_by (nat_eq number) published + cond (nat_eq number published_for) 1 0
kept_more number published_for published = sum_by_push (λ other. cond (nat_eq number other) 1 0) published published_for

module _ (boards : List Board) (published : List ℕ) (number : ℕ) (few : AreBoards boards) (old : Counts) (before : AreCounted boards published old) where
  few_finished : finished_count boards (published ++ number ∷ []) ≤ 4096
  few_finished = let most = count_by-le-length (λ (board : Board). nat_le 20 (results_of boards (published ++ number ∷ []) board)) boards in omega (arith, most, few)

  -- one of a board past all places
  pub counted_past : 4096 ≤ number → AreCounted boards (published ++ number ∷ []) old
  counted_past past =
      let none = none_past boards number (omega (arith, few, past)) in
      record {
        boards_are = before.boards_are;
        results_are = before.results_are;
        published_are = omega (arith, before.published_are, result_count-push boards published number, none);
        finished_are = ⊎_elim
            (λ (is : count_by (nat_eq number) published ≡ 19). omega (arith, before.finished_are, finished_count-twentieth boards published number is, none))
            (λ (other : count_by (nat_eq number) published ≡ 19 → ⊥). before.finished_are ∙ sym (finished_count-other boards published number other))
            (cases_eq (count_by (nat_eq number) published) 19);
        sharing_are = before.sharing_are;
        of_board_are = λ place within.
            let other = ne_eqb place number (λ e. omega (arith, e, within, past)) in
            let more : count_by (nat_eq place) (published ++ number ∷ []) ≡ count_by (nat_eq place) published + 0 = rw other at (kept_more place number published) in
            omega (arith, before.of_board_are place within, more);
      }

  -- one of a board within them
  pub counted_more : number < 4096 → length old.of_board ≡ 4096 → (all here finished : ℕ)
      → all ≡ min (old.published + get_or old.sharing number 0) (2 ^ 64 - 1) → here ≡ min (get_or old.of_board number 0 + 1) 255
      → (here ≡ 20 → finished ≡ min (old.finished + get_or old.sharing number 0) (2 ^ 64 - 1)) → ((here ≡ 20 → ⊥) → finished ≡ old.finished)
      → AreCounted boards (published ++ number ∷ []) (record { of_board = set old.of_board number here; sharing = old.sharing; published = all; results = old.results; finished = finished; boards = old.boards })
  counted_more within places all here finished all_is here_is then_is else_is =
      let shared = before.sharing_are number within in
      let kept = before.of_board_are number within in
      record {
        boards_are = before.boards_are;
        results_are = before.results_are;
        published_are = omega (arith, all_is, before.published_are, shared, result_count-push boards published number);
        finished_are = ⊎_elim
            (λ (is : count_by (nat_eq number) published ≡ 19).
            let twentieth : here ≡ 20 = omega (arith, is, kept, here_is) in
            omega (arith, then_is twentieth, before.finished_are, shared, finished_count-twentieth boards published number is, few_finished))
            (λ (other : count_by (nat_eq number) published ≡ 19 → ⊥).
            let not_twentieth : here ≡ 20 → ⊥ = λ e. other (omega (arith, e, kept, here_is)) in
            else_is not_twentieth ∙ before.finished_are ∙ sym (finished_count-other boards published number other))
            (cases_eq (count_by (nat_eq number) published) 19);
        sharing_are = before.sharing_are;
        of_board_are = λ place inside. at place inside (cases_eq place number);
      }
    where
      at : (place : ℕ) → place < 4096 → (place ≡ number) ⊎ (place ≡ number → ⊥) → get_or (set old.of_board number here) place 0 ≡ min (count_by (nat_eq place) (published ++ number ∷ [])) 255
      at place inside (inl same) =
          let more : count_by (nat_eq place) (published ++ number ∷ []) ≡ count_by (nat_eq place) published + 1 = rw (eq-eqb place number same) at (kept_more place number published) in
          let kept = before.of_board_are place inside in
          let read : get_or (set old.of_board number here) place 0 ≡ here = rw same (get_or-set_same old.of_board number here 0 (omega (arith, within, places))) in
          let here_at : here ≡ min (get_or old.of_board place 0 + 1) 255 = rw same here_is in
          omega (arith, read, here_at, kept, more)
      at place inside (inr other) =
          let more : count_by (nat_eq place) (published ++ number ∷ []) ≡ count_by (nat_eq place) published + 0 = rw (ne_eqb place number other) at (kept_more place number published) in
          omega (arith, get_or-set_other old.of_board number place here 0 other, before.of_board_are place inside, more)

-- ---- the counts of no results
pub begun : (boards : List Board) (index : ℕ) (counts : Counts) → AreBoards boards → length boards ≤ index
    → counts.boards ≡ min (count_by (λ (board : Board). is_some board.deal) (take index boards)) (2 ^ 64 - 1) → counts.results ≡ min (20 * count_by (λ (board : Board). is_some board.deal) (take index boards)) (2 ^ 64 - 1)
    → counts.published ≡ 0 → counts.finished ≡ 0
    → ((number : ℕ) → number < 4096 → get_or counts.sharing number 0 ≡ min (count_by (λ (board : Board). is_first_with boards board.deal number) (take index boards)) 65535)
    → ((number : ℕ) → number < 4096 → get_or counts.of_board number 0 ≡ 0)
    → AreCounted boards [] counts
begun boards index counts few whole boards_are results_are published_are finished_are sharing_are of_board_are =
    let all : take index boards ≡ boards = take_all index boards whole in
    let dealt = λ (board : Board). is_some board.deal in
    record {
      boards_are =
          let dealt_are : counts.boards ≡ min (count_by dealt boards) (2 ^ 64 - 1) = rw all at boards_are in
          omega (arith, dealt_are, few, count_by-le-length dealt boards);
      results_are =
          let results : counts.results ≡ min (20 * count_by dealt boards) (2 ^ 64 - 1) = rw all at results_are in
          omega (arith, results, few, count_by-le-length dealt boards);
      published_are = omega (arith, published_are, sum_by-le (results_of boards []) 0 boards (λ k d within. omega arith));
      finished_are = omega (arith, finished_are, sum_by-le (λ board. one_if (nat_le 20 (results_of boards [] board))) 0 boards (λ k d within. omega arith));
      sharing_are = λ number within.
          let has = λ (board : Board). is_first_with boards board.deal number in
          let sharing : get_or counts.sharing number 0 ≡ min (count_by has boards) 65535 = rw all at (sharing_are number within) in
          omega (arith, sharing, few, count_by-le-length has boards);
      of_board_are = of_board_are;
    }

-- The first board with a deal, and the least of an entry's twins.
use Rattle.std.proofs.Common.{◌≡◌, ℕ, zero, suc, ◌+◌, ◌<◌, ◌≤◌, Bool, true, false, not, cond, ◌&&◌, List, [], ◌∷◌, length, Option, None, Some, slice_get, is_some, refl, sym, ◌∙◌, ap, ⊎_elim, arith}
use Rattle.std.specs.Prelude.{nat_eq}
use Rattle.std.specs.List.{position_or_len}
use Rattle.std.proofs.lemmas.Bool.{both_ways, cases_lt, and_parts, and_from, and_left, eqb-true, eq-eqb}
use Rattle.std.proofs.lemmas.Option.{none-some, same_Some, slice_get_past}
use Rattle.cards.specs.Deal.{Deal}
use Rattle.cards.specs.SameDeal.{is_same_deal-Decides}
use Rattle.pbn_deals.specs.declared.boards.Board.{Board}
use Rattle.lease_book.specs.declared.entries.Entry.{Entry}
use Rattle.lease_book.specs.Entries.{contract_place, place_of}
use Rattle.lease_book.specs.Twins.{deal_of_board, deal_of, is_this_deal, are_equal_deals, are_twins, IsLeastTwin, IsTwinOn, IsTwin, is_dealt, first_with, first_board, is_first, twin_of}
use Rattle.lease_book.proofs.EntryLaws.{same_bool, same_entry}

-- ---- the first that passes a test
pub there_below : (boards : List Board) (number : ℕ) (board : Board) → slice_get boards number ≡ Some board → number < length boards
there_below boards number board there =
    ⊎_elim
    (λ (l : number < length boards). l)
    (λ (l : length boards ≤ number). absurd (none-some board (sym (slice_get_past boards number l) ∙ there)))
    (cases_lt number (length boards))

-- it stands no later than another that passes
pub first_le : (test : Board → Bool) (boards : List Board) (number : ℕ) (board : Board) → slice_get boards number ≡ Some board → test board ≡ true → position_or_len test boards ≤ number
first_le test [] number board there passes = absurd (none-some board there)
first_le test (first ∷ rest) number board there passes = go (test first) refl (λ n h. first_le test rest n board h passes) number there
  where
    go : (b : Bool) → test first ≡ b → ((n : ℕ) → slice_get rest n ≡ Some board → position_or_len test rest ≤ n) → (n : ℕ) → slice_get (first ∷ rest) n ≡ Some board → cond (not b) (1 + position_or_len test rest) 0 ≤ n
    go true e later n h = omega arith
    go false e later zero h = absurd (both_ways (test first) e (ap test (same_Some first board h) ∙ passes))
    go false e later (suc n) h = omega (arith, later n h)

-- it passes, where there is one
pub first_passes : (test : Board → Bool) (boards : List Board) → position_or_len test boards < length boards → (found : Board) × (slice_get boards (position_or_len test boards) ≡ Some found) × (test found ≡ true)
first_passes test [] l = absurd (omega (arith, l))
first_passes test (first ∷ rest) l = go (test first) refl (first_passes test rest) l
  where
    go : (b : Bool) → test first ≡ b → (position_or_len test rest < length rest → (found : Board) × (slice_get rest (position_or_len test rest) ≡ Some found) × (test found ≡ true))
        → cond (not b) (1 + position_or_len test rest) 0 < length (first ∷ rest)
        → (found : Board) × (slice_get (first ∷ rest) (cond (not b) (1 + position_or_len test rest) 0) ≡ Some found) × (test found ≡ true)
    go true e later l = (first, refl, e)
    go false e later l =
        let found = later (omega (arith, l)) in
        let one_more : 1 + position_or_len test rest ≡ suc (position_or_len test rest) = omega arith in
        (found.0, ap (slice_get (first ∷ rest)) one_more ∙ found.1, found.2)

-- ---- the first board with a deal
pub this_deal : (deal : Deal) (o : Option Deal) → is_this_deal deal o ≡ true → o ≡ Some deal
this_deal deal None h = absurd (both_ways false refl h)
this_deal deal (Some other) h = ap (λ (d : Deal). Some d) (sym ((is_same_deal-Decides deal other).0 h))

pub this_itself : (deal : Deal) → is_this_deal deal (Some deal) ≡ true
this_itself deal = (is_same_deal-Decides deal deal).1 refl

pub board_with : (boards : List Board) (number : ℕ) (deal : Deal) → deal_of boards number ≡ Some deal → (board : Board) × (slice_get boards number ≡ Some board) × (board.deal ≡ Some deal)
board_with boards number deal h = go (slice_get boards number) refl
  where
    go : (o : Option Board) → slice_get boards number ≡ o → (board : Board) × (slice_get boards number ≡ Some board) × (board.deal ≡ Some deal)
    go None e = absurd (none-some deal (sym (ap deal_of_board e) ∙ h))
    go (Some board) e = (board, e, sym (ap deal_of_board e) ∙ h)

pub deal_there : (boards : List Board) (number : ℕ) (deal : Deal) → deal_of boards number ≡ Some deal → number < length boards
deal_there boards number deal h = let board = board_with boards number deal h in there_below boards number board.0 board.1

module _ (boards : List Board) (number : ℕ) (deal : Deal) (has : deal_of boards number ≡ Some deal) where
  pub first_is : first_board boards number ≡ position_or_len (is_dealt deal) boards
  first_is = ap (λ o. first_with boards o number) has

  pub first_below : (other : ℕ) → deal_of boards other ≡ Some deal → first_board boards number ≤ other
  first_below other h =
      let board = board_with boards other deal h in
      let least = first_le (is_dealt deal) boards other board.0 board.1 (ap (is_this_deal deal) board.2 ∙ this_itself deal) in
      omega (arith, first_is, least)

  pub first_has : deal_of boards (first_board boards number) ≡ Some deal
  first_has =
      let below : position_or_len (is_dealt deal) boards < length boards = omega (arith, first_is, first_below number has, deal_there boards number deal has) in
      let found = first_passes (is_dealt deal) boards below in
      ap (deal_of boards) first_is ∙ ap deal_of_board found.1 ∙ this_deal deal (found.0).deal found.2

  pub first_again : first_board boards (first_board boards number) ≡ first_board boards number
  first_again = ap (λ o. first_with boards o (first_board boards number)) first_has ∙ sym first_is

  pub first_is_first : is_first boards (first_board boards number) ≡ true
  first_is_first =
      and_from (is_some (deal_of boards (first_board boards number))) (nat_eq (first_board boards (first_board boards number)) (first_board boards number))
      (ap (λ (o : Option Deal). is_some o) first_has)
      (eq-eqb (first_board boards (first_board boards number)) (first_board boards number) first_again)

pub some_deal : (o : Option Deal) → is_some o ≡ true → (deal : Deal) × (o ≡ Some deal)
some_deal None h = absurd (both_ways false refl h)
some_deal (Some deal) h = (deal, refl)

-- a board that is the first with its deal
module _ (boards : List Board) (number : ℕ) (first : is_first boards number ≡ true) where
  first_parts : (is_some (deal_of boards number) ≡ true) × (nat_eq (first_board boards number) number ≡ true)
  first_parts = and_parts (is_some (deal_of boards number)) (nat_eq (first_board boards number) number) first

  pub first_deal : (deal : Deal) × (deal_of boards number ≡ Some deal)
  first_deal = some_deal (deal_of boards number) first_parts.0

  pub first_itself : first_board boards number ≡ number
  first_itself = eqb-true (first_board boards number) number first_parts.1

  pub first_there : number < length boards
  first_there = deal_there boards number first_deal.0 first_deal.1

pub none_first : (boards : List Board) (number : ℕ) → length boards ≤ number → is_first boards number ≡ false
none_first boards number l =
    and_left (is_some (deal_of boards number)) (nat_eq (first_board boards number) number) (ap (λ o. is_some (deal_of_board o)) (slice_get_past boards number l))

-- ---- twins
-- what two twins have in common
pub record AreAlike (boards : List Board) (one other : Entry) : Type 0 where
  pub deal : Deal
  pub one_has : deal_of boards one.board ≡ Some deal
  pub other_has : deal_of boards other.board ≡ Some deal
  pub contract : contract_place one.declarer one.trump ≡ contract_place other.declarer other.trump

pub alike : (boards : List Board) (one other : Entry) → are_twins boards one other ≡ true → AreAlike boards one other
alike boards one other h =
    let same = nat_eq (contract_place one.declarer one.trump) (contract_place other.declarer other.trump) in
    let both = and_parts (are_equal_deals (deal_of boards one.board) (deal_of boards other.board)) same h in
    go (deal_of boards one.board) refl both.0 (eqb-true (contract_place one.declarer one.trump) (contract_place other.declarer other.trump) both.1)
  where
    go : (o : Option Deal) → deal_of boards one.board ≡ o → are_equal_deals o (deal_of boards other.board) ≡ true → contract_place one.declarer one.trump ≡ contract_place other.declarer other.trump → AreAlike boards one other
    go None e equal contract = absurd (both_ways false refl equal)
    go (Some deal) e equal contract = record { deal = deal; one_has = e; other_has = this_deal deal (deal_of boards other.board) equal; contract = contract }

pub twins_of : (boards : List Board) (one other : Entry) (deal : Deal) → deal_of boards one.board ≡ Some deal → deal_of boards other.board ≡ Some deal → contract_place one.declarer one.trump ≡ contract_place other.declarer other.trump
    → are_twins boards one other ≡ true
twins_of boards one other deal one_has other_has contract =
    and_from (are_equal_deals (deal_of boards one.board) (deal_of boards other.board)) (nat_eq (contract_place one.declarer one.trump) (contract_place other.declarer other.trump))
    (ap (λ o. are_equal_deals o (deal_of boards other.board)) one_has ∙ ap (is_this_deal deal) other_has ∙ this_itself deal)
    (eq-eqb (contract_place one.declarer one.trump) (contract_place other.declarer other.trump) contract)

-- twins have the same twins
pub same_twins : (boards : List Board) (one other : Entry) → are_twins boards one other ≡ true → are_twins boards one ≡ are_twins boards other
same_twins boards one other h =
    let both = alike boards one other h in
    let of : Option Deal → ℕ → Entry → Bool = λ o n entry. are_equal_deals o (deal_of boards entry.board) && nat_eq n (contract_place entry.declarer entry.trump) in
    ap (λ o. of o (contract_place one.declarer one.trump)) (both.one_has ∙ sym both.other_has) ∙ ap (of (deal_of boards other.board)) both.contract

pub least_of : (boards : List Board) (entry : Entry) (deal : Deal) → deal_of boards entry.board ≡ Some deal → IsLeastTwin boards entry (twin_of boards entry)
least_of boards entry deal has =
    record {
      is_twin = twins_of boards entry (twin_of boards entry) deal has (first_has boards entry.board deal has) refl;
      least = λ other h.
          let both = alike boards entry other h in
          let same : Some both.deal ≡ Some deal = sym both.one_has ∙ has in
          let below = first_below boards entry.board deal has other.board (both.other_has ∙ same) in
          omega (arith, below, both.contract);
    }

pub least_twin : (boards : List Board) (entry : Entry) → IsTwin boards entry (twin_of boards entry)
least_twin boards entry = go (deal_of boards entry.board) refl
  where
    go : (o : Option Deal) → deal_of boards entry.board ≡ o → IsTwinOn o boards entry (twin_of boards entry)
    go None h = ap (λ (board : ℕ). record { board = board; declarer = entry.declarer; trump = entry.trump }) (ap (λ o. first_with boards o entry.board) h)
    go (Some deal) h = least_of boards entry deal h

-- an entry of a first board is its own least twin
pub twin_itself : (boards : List Board) (entry : Entry) → is_first boards entry.board ≡ true → twin_of boards entry ≡ entry
twin_itself boards entry first = ap (λ (board : ℕ). record { board = board; declarer = entry.declarer; trump = entry.trump }) (first_itself boards entry.board first)

-- of the entries of first boards only the least twin is a twin
pub only_twin : (boards : List Board) (entry named : Entry) → is_first boards named.board ≡ true → are_twins boards entry named ≡ nat_eq (place_of named) (place_of (twin_of boards entry))
only_twin boards entry named first = same_bool (are_twins boards entry named) (nat_eq (place_of named) (place_of (twin_of boards entry))) to from
  where
    to : are_twins boards entry named ≡ true → nat_eq (place_of named) (place_of (twin_of boards entry)) ≡ true
    to h =
        let both = alike boards entry named h in
        let one = first_is boards entry.board both.deal both.one_has in
        let other = first_is boards named.board both.deal both.other_has in
        eq-eqb (place_of named) (place_of (twin_of boards entry)) (omega (arith, one, other, first_itself boards named.board first, both.contract))

    by_deal : (o : Option Deal) → deal_of boards entry.board ≡ o → named ≡ twin_of boards entry → are_twins boards entry named ≡ true
    by_deal None h same =
        let board : named.board ≡ entry.board = ap (λ (e : Entry). e.board) same ∙ ap (λ o. first_with boards o entry.board) h in
        let deal = first_deal boards named.board first in
        absurd (none-some deal.0 (sym h ∙ ap (deal_of boards) (sym board) ∙ deal.1))
    by_deal (Some deal) h same =
        twins_of boards entry named deal h
        (ap (λ (e : Entry). deal_of boards e.board) same ∙ first_has boards entry.board deal h)
        (ap (λ (e : Entry). contract_place e.declarer e.trump) (sym same))

    from : nat_eq (place_of named) (place_of (twin_of boards entry)) ≡ true → are_twins boards entry named ≡ true
    from h = by_deal (deal_of boards entry.board) refl (same_entry named (twin_of boards entry) (eqb-true (place_of named) (place_of (twin_of boards entry)) h))

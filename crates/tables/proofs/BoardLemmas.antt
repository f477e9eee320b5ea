-- The boards with their places, one by one.
use Rattle.std.proofs.Common.{◌≡◌, ℕ, ◌+◌, ◌<◌, Bool, true, false, List, [], None, length, take, get_or, sym, ◌∙◌, ap, arith, count_by}
use Rattle.std.specs.List.{enumerate_from}
use Rattle.std.proofs.lemmas.List.FromFn.{get_or-enumerate_from, length-enumerate_from}
use Rattle.std.proofs.lemmas.List.Sums.{count_by_more_yes, count_by_more_no}
use Rattle.pbn_deals.specs.declared.boards.Board.{Board}
use Rattle.tables.specs.TablesText.{Printed, is_complete, board_text, numbered_text}

module _ (boards : List Board) (results : ℕ → Printed) (place : ℕ) (board : Board) (within : place < length boards) (is : board ≡ get_or boards place board) where
  pub place-within : place < length (enumerate_from 0 boards)
  place-within = omega (arith, within, length-enumerate_from 0 boards)

  at-place : get_or (enumerate_from 0 boards) place (0, board) ≡ (place, board)
  at-place =
      let same : 0 + place ≡ place = omega arith in
      get_or-enumerate_from 0 boards place (0, board) within
      ∙ (ap (λ n. (n, get_or boards place board)) same ∙ ap (λ b. (place, b)) (sym is))

  pub text-at : numbered_text results (get_or (enumerate_from 0 boards) place (0, board)) ≡ board_text board (results place)
  text-at = ap (numbered_text results) at-place

-- how many of the boards so far have a complete table
module _ (boards : List Board) (results : ℕ → Printed) (place : ℕ) (within : place < length boards) where
  none : Board
  none = record { name = []; deal = None }

  is_complete-at : (flag : Bool) → is_complete (results place).results ≡ flag → is_complete (results (get_or (enumerate_from 0 boards) place (0, none)).0).results ≡ flag
  is_complete-at flag e =
      let same : 0 + place ≡ place = omega arith in
      ap (λ (numbered : ℕ × Board). is_complete (results numbered.0).results) (get_or-enumerate_from 0 boards place (0, none) within)
      ∙ (ap (λ n. is_complete (results n).results) same ∙ e)

  place-there : place < length (enumerate_from 0 boards)
  place-there = omega (arith, within, length-enumerate_from 0 boards)

  pub counts-one : is_complete (results place).results ≡ true → count_by (λ numbered. is_complete (results numbered.0).results) (take (place + 1) (enumerate_from 0 boards)) ≡ count_by (λ numbered. is_complete (results numbered.0).results) (take place (enumerate_from 0 boards)) + 1
  counts-one e = count_by_more_yes (λ (numbered : ℕ × Board). is_complete (results numbered.0).results) (enumerate_from 0 boards) place (0, none) place-there (is_complete-at true e)

  pub counts-none : is_complete (results place).results ≡ false → count_by (λ numbered. is_complete (results numbered.0).results) (take (place + 1) (enumerate_from 0 boards)) ≡ count_by (λ numbered. is_complete (results numbered.0).results) (take place (enumerate_from 0 boards))
  counts-none e = count_by_more_no (λ (numbered : ℕ × Board). is_complete (results numbered.0).results) (enumerate_from 0 boards) place (0, none) place-there (is_complete-at false e)

-- The boards with their places, one by one.
use Rattle.std.proofs.Common.{◌≡◌, ℕ, ◌+◌, ◌<◌, List, length, get_or, sym, ◌∙◌, ap, arith}
use Rattle.std.specs.List.{enumerate_from}
use Rattle.std.proofs.lemmas.List.FromFn.{get_or-enumerate_from, length-enumerate_from}
use Rattle.pbn_deals.specs.declared.boards.Board.{Board}

module _ (boards : List Board) (place : ℕ) (board : Board) (within : place < length boards) (is : board ≡ get_or boards place board) where
  pub place_within : place < length (enumerate_from 0 boards)
  place_within = omega (arith, within, length-enumerate_from 0 boards)

  pub board_at : get_or (enumerate_from 0 boards) place (0, board) ≡ (place, board)
  board_at =
      let same : 0 + place ≡ place = omega arith in
      get_or-enumerate_from 0 boards place (0, board) within
      ∙ (ap (λ n. (n, get_or boards place board)) same ∙ ap (λ b. (place, b)) (sym is))

use Rattle.std.proofs.Common.{ℕ, ◌∙◌, take_all, ap, arith, sum_by}
use Rattle.std.specs.List.{enumerate_from}
use Rattle.std.proofs.lemmas.List.FromFn.{length-enumerate_from}
use Rattle.std.proofs.lemmas.List.Sums.{sum_by_more}
use Rattle.pbn_deals.specs.declared.boards.Board.{Board}
use Rattle.opening_leads.specs.Tasks.{leads_in}
use Rattle.opening_leads.specs.Texts.{missing_of, missing_count}
use Rattle.opening_leads.proofs.BoardLaws.{place_within, board_at}
use Rattle.opening_leads.proofs.counts.count_missing.Goals as goal

pub loop-place-preserved : goal.loop-place-preserved
loop-place-preserved c =
    let boards = c.args.boards.now in
    let missing : ℕ × Board → ℕ = λ numbered. missing_of numbered.1.deal (leads_in c.args.table.now numbered.0) in
    let place = c.loop-place.place in
    let board = c.index-boards-place.result in
    let is = c.index-boards-place.is in
    let more = sum_by_more missing (enumerate_from 0 boards) place (0, board) (place_within boards place board (omega arith) is) in
    let there = ap missing (board_at boards place board (omega arith) is) in
    record { counted = omega (arith, more, there); bound = omega arith }

pub returns : goal.returns
unfolding missing_count
returns c =
    let boards = c.args.boards.now in
    let missing : ℕ × Board → ℕ = λ numbered. missing_of numbered.1.deal (leads_in c.args.table.now numbered.0) in
    c.loop-place.invariant.counted
    ∙ ap (sum_by missing) (take_all c.loop-place.place (enumerate_from 0 boards) (omega (arith, length-enumerate_from 0 boards)))

use Rattle.std.proofs.Common.{ℕ, ◌<◌, ◌≤◌, ◌∙◌, length, ap, arith, take_all, count_by}
use Rattle.std.proofs.lemmas.List.FromFn.{length-enumerate_from}
use Rattle.std.specs.List.{enumerate_from}
use Rattle.pbn_deals.specs.declared.boards.Board.{Board}
use Rattle.tables.specs.TablesText.{is_complete, complete_count}
use Rattle.tables.proofs.BoardLemmas.{counts-one, counts-none}
use Rattle.tables.proofs.TableLemmas.{is_complete-full, is_complete-short}
use Rattle.tables.proofs.tables.count_complete.Goals as goal
use Rattle.tables.proofs.tables.count_complete.Goals.{then-count_results-eq20, else-count_results-eq20}

pub loop-place-preserved : goal.loop-place-preserved
loop-place-preserved g c =
    let boards = g.T.Results.boards_of c.args.results.now in
    let results = g.T.Results.printed_of c.args.results.now in
    let place = c.loop-place.place in
    let within : place < length boards = omega (arith, ap length c.boards-place-end.ensures, c.loop-place-test.true) in
    let count = c.count_results.result in
    let is = c.count_results.ensures.count in
    let inv = c.loop-place.invariant in
    elim c.if-count_results-eq20.branch [
      | then-count_results-eq20 w ↦
          let one = counts-one boards results place within (is_complete-full (results place).results count is (omega (arith, w.if-count_results-eq20.true))) in
          record { counted = omega (arith, one, inv.counted, w.complete-is); bound = omega (arith, inv.bound, w.complete-is) }
      | else-count_results-eq20 w ↦
          let none = counts-none boards results place within (is_complete-short (results place).results count is (λ q. absurd (omega (arith, q, w.if-count_results-eq20.false)))) in
          record { counted = omega (arith, none, inv.counted, w.complete-is); bound = omega (arith, inv.bound, w.complete-is) }
    ]

pub returns : goal.returns
unfolding complete_count
returns g c =
    let boards = g.T.Results.boards_of c.args.results.now in
    let results = g.T.Results.printed_of c.args.results.now in
    let end : length boards ≤ c.loop-place.place = omega (arith, ap length c.boards-place-end.ensures, c.loop-place-test.false) in
    c.loop-place.invariant.counted
    ∙ ap (count_by (λ (numbered : ℕ × Board). is_complete (results numbered.0).results)) (take_all c.loop-place.place (enumerate_from 0 boards) (omega (arith, end, length-enumerate_from 0 boards)))

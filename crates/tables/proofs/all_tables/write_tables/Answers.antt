use Rattle.std.proofs.Common.{arith, rules}
use Rattle.std.specs.List.{flat_map, enumerate_from}
use Rattle.std.proofs.lemmas.List.FromFn.{length-enumerate_from}
use Rattle.cards.proofs.DeviceLemmas.{Adds-twice}
use Rattle.cards.proofs.WriteLemmas.{AddsBeginning-stop, AddsBeginning-then, Adds-piece, AddsBeginning-piece, Writes-err, pieces-all}
use Rattle.tables.specs.TablesText.{numbered_text, tables_text}
use Rattle.tables.proofs.BoardLemmas.{place-within, text-at}
use Rattle.tables.proofs.all_tables.write_tables.Goals as goal

pub returns-in_err-write_all-clause-writes : goal.returns-in_err-write_all-clause-writes
unfolding tables_text
returns-in_err-write_all-clause-writes g c =
    let boards = g.T.Results.boards_of c.args.results.now in
    let results = g.T.Results.printed_of c.args.results.now in
    Writes-err c.from_residual.result _ c.from_residual.ensures.1
    (AddsBeginning-stop (flat_map (numbered_text results) (enumerate_from 0 boards)) c.in_err-write_all.ensures)

pub returns-in_err-write_board-clause-writes : goal.returns-in_err-write_board-clause-writes
unfolding tables_text
returns-in_err-write_board-clause-writes g c =
    let boards = c.boards-boards.result.now in
    let results = g.T.Results.printed_of c.args.results.now in
    let place = c.loop-place.place in
    let board = c.index-boards-place.result in
    rw (← c.boards-boards.ensures)
    (Writes-err c.from_residual-in_err-write_board.result _ c.from_residual-in_err-write_board.ensures.1
    (AddsBeginning-then c.loop-place.invariant.first_line
    (AddsBeginning-piece (numbered_text results) (enumerate_from 0 boards) place (0, board) (place-within boards results place board (omega arith) c.index-boards-place.is) c.loop-place.invariant.wrote
    (rw (text-at boards results place board (omega arith) c.index-boards-place.is) c.in_err-write_board.ensures))))

pub loop-place-preserved : goal.loop-place-preserved
loop-place-preserved g c =
    let boards = c.boards-boards.result.now in
    let results = g.T.Results.printed_of c.args.results.now in
    let inv = c.loop-place.invariant in
    let place = c.loop-place.place in
    let board = c.index-boards-place.result in
    let is = c.index-boards-place.is in
    record {
      begun = inv.begun;
      first_line = inv.first_line;
      wrote = Adds-piece (numbered_text results) (enumerate_from 0 boards) place (0, board) (place-within boards results place board (omega arith) is) inv.wrote
          (rw (text-at boards results place board (omega arith) is) c.in_ok-write_board.ensures);
    }

pub returns-clause-writes : goal.returns-clause-writes
unfolding tables_text
returns-clause-writes g c =
    let boards = c.boards-boards.result.now in
    let results = g.T.Results.printed_of c.args.results.now in
    let inv = c.loop-place.invariant in
    let all = pieces-all (numbered_text results) (enumerate_from 0 boards) c.loop-place.place (omega (arith, length-enumerate_from 0 boards)) in
    rw (← c.boards-boards.ensures) (Adds-twice inv.first_line (rw all at inv.wrote))

pub loop-place-init : goal.loop-place-init
loop-place-init g c = search rules

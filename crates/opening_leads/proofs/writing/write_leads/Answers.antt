use Rattle.std.proofs.Common.{arith, rules, ap}
use Rattle.std.specs.List.{flat_map, enumerate_from}
use Rattle.std.proofs.lemmas.List.FromFn.{length-enumerate_from}
use Rattle.cards.proofs.DeviceLemmas.{Adds-twice}
use Rattle.cards.proofs.WriteLemmas.{AddsBeginning-stop, AddsBeginning-then, Adds-piece, AddsBeginning-piece, Writes-err, pieces-all}
use Rattle.opening_leads.specs.Tasks.{leads_in}
use Rattle.opening_leads.specs.Texts.{numbered_text, leads_text}
use Rattle.opening_leads.proofs.BoardLaws.{place_within, board_at}
use Rattle.opening_leads.proofs.writing.write_leads.Goals as goal

pub returns-in_err-write_all : goal.returns-in_err-write_all
unfolding leads_text
returns-in_err-write_all g c =
    Writes-err c.from_residual.result _ c.from_residual.ensures.1
    (AddsBeginning-stop (flat_map (numbered_text (leads_in c.args.table.now)) (enumerate_from 0 c.args.boards.now)) c.in_err-write_all.ensures)

pub returns-in_err-write_board : goal.returns-in_err-write_board
unfolding leads_text
returns-in_err-write_board g c =
    let boards = c.args.boards.now in
    let text = numbered_text (leads_in c.args.table.now) in
    let place = c.loop-place.place in
    let board = c.index-boards-place.result in
    let is = c.index-boards-place.is in
    Writes-err c.from_residual-in_err-write_board.result _ c.from_residual-in_err-write_board.ensures.1
    (AddsBeginning-then c.loop-place.invariant.first_line
    (AddsBeginning-piece text (enumerate_from 0 boards) place (0, board) (place_within boards place board (omega arith) is) c.loop-place.invariant.wrote
    (rw (ap text (board_at boards place board (omega arith) is)) c.in_err-write_board.ensures)))

pub loop-place-preserved : goal.loop-place-preserved
loop-place-preserved g c =
    let boards = c.args.boards.now in
    let text = numbered_text (leads_in c.args.table.now) in
    let inv = c.loop-place.invariant in
    let place = c.loop-place.place in
    let board = c.index-boards-place.result in
    let is = c.index-boards-place.is in
    record {
      begun = inv.begun;
      first_line = inv.first_line;
      wrote = Adds-piece text (enumerate_from 0 boards) place (0, board) (place_within boards place board (omega arith) is) inv.wrote
          (rw (ap text (board_at boards place board (omega arith) is)) c.in_ok-write_board.ensures);
    }

pub returns : goal.returns
unfolding leads_text
returns g c =
    let boards = c.args.boards.now in
    let inv = c.loop-place.invariant in
    let all = pieces-all (numbered_text (leads_in c.args.table.now)) (enumerate_from 0 boards) c.loop-place.place (omega (arith, length-enumerate_from 0 boards)) in
    Adds-twice inv.first_line (rw all at inv.wrote)

pub loop-place-init : goal.loop-place-init
loop-place-init g c = search rules

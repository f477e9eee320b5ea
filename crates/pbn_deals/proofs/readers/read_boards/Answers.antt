use Rattle.std.proofs.lemmas.Result.{err_from_is_err_and}
use Rattle.pbn_deals.proofs.StepLemmas.{fault_here, open_at_end, whole_at_end}
use Rattle.pbn_deals.proofs.readers.read_boards.Goals as goal

pub returns-in_err-take_line : goal.returns-in_err-take_line
returns-in_err-take_line c =
    let now = c.lines in
    let p = err_from_is_err_and c.from_residual.result c.from_residual.ensures.1 in
    rw (p.1, p.2) (fault_here c.args.text.now now.number now.rest.now now.reader now.invariant.goes c.cut_line.result.0 c.cut_line.result.1 c.in_err-take_line.field-0.0 c.cut_line.ensures c.in_err-take_line.ensures)

pub returns-in-Some-opened : goal.returns-in-Some-opened
returns-in-Some-opened c =
    let now = c.lines in
    open_at_end c.args.text.now now.number now.rest.now now.reader now.invariant.goes c.cut_line.result.0 c.cut_line.result.1 c.cut_line.ensures c.in_default.is c.take_line.new.self c.in_ok-take_line.ensures c.in-Some-opened.line c.in-Some-opened.is

pub returns : goal.returns
returns c =
    let now = c.lines in
    whole_at_end c.args.text.now now.number now.rest.now now.reader now.invariant.goes c.cut_line.result.0 c.cut_line.result.1 c.cut_line.ensures c.in_default.is c.take_line.new.self c.in_ok-take_line.ensures c.end_game.new.self.boards.items c.in_default-opened.is c.in_ok-end_game.ensures.boards

use Rattle.play_pages.proofs.FoundLaws.{found_kept, found_lines, missing_lines}
use Rattle.play_pages.proofs.finding.find_lines.Goals as goal

pub returns-then-query : goal.returns-then-query
returns-then-query g c =
    found_kept (g.S.PlaySolver.may_find_play c.args.solver.now) c.args.query c.args.play.now c.kept_lines.result c.recorded.result c.recorded.ensures c.in-Ok.found c.in-Ok.ensures c.invariant.ensures c.if-query.true c.kept_lines.ensures

pub returns-else-query : goal.returns-else-query
returns-else-query g c =
    found_lines (g.S.PlaySolver.may_find_play c.args.solver.now) c.args.query c.args.play.now c.lines_of.result c.recorded.result c.recorded.ensures c.in-Ok.found c.in-Ok.ensures c.invariant.ensures c.recorded-else-query.result c.recorded-else-query.ensures c.if-query.false c.lines_of.ensures.lines c.lines_of.ensures.section

pub returns-in-Err : goal.returns-in-Err
returns-in-Err g c =
    missing_lines (g.S.PlaySolver.may_find_play c.args.solver.now) c.args.query c.args.play.now c.lines_of-in-Err.result c.recorded.result c.recorded.ensures c.recorded-in-Err.result c.recorded-in-Err.ensures c.in-Err.field-0 c.in-Err.ensures c.lines_of-in-Err.ensures.lines c.lines_of-in-Err.ensures.section

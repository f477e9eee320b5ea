use Rattle.opening_leads.proofs.TaskLaws.{done_with, done_without}
use Rattle.opening_leads.proofs.threads.do_task.Goals as goal

pub returns-in-Some : goal.returns-in-Some
returns-in-Some g c =
    done_with (g.S.CardSolver.may_find_cards c.args.means.now.solver.now) c.args.budget c.args.task c.args.boards.now c.index-boards-task.result c.requires c.find_rows-rows.result c.in-Some.layout _ c.in-Some.is c.find_rows-rows.ensures

pub returns-in-None : goal.returns-in-None
returns-in-None g c =
    done_without (g.S.CardSolver.may_find_cards c.args.means.now.solver.now) c.args.budget c.args.task c.args.boards.now c.index-boards-task.result c.requires c.lacking.result c.in-None.is

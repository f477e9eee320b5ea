-- The tasks so far are done.
use Rattle.opening_leads.specs.Tasks.{AreDone}
use Rattle.opening_leads.proofs.threads.take_tasks.Given as goal

abbrev pub invariant-loop-turn : goal.invariant-loop-turn
invariant-loop-turn g l = AreDone (g.S.CardSolver.may_find_cards l.means.solver.now) l.budget l.boards l.done.items

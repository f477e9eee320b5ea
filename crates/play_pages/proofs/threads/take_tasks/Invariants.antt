-- The tasks so far are done.
use Rattle.play_pages.specs.Tasks.{AreDone}
use Rattle.play_pages.proofs.threads.take_tasks.Given as goal

abbrev pub invariant-loop-turn : goal.invariant-loop-turn
invariant-loop-turn g l = AreDone (g.S.PlaySolver.may_find_play l.solver) l.query l.games l.done.items

use Rattle.std.proofs.Common.{ℕ, ◌<◌, ◌*◌, None, length, IsSome, arith}
use Rattle.std.specs.Prelude.{slice_index_or}
use Rattle.opening_leads.proofs.NoteLaws.{found_on}
use Rattle.opening_leads.proofs.threads.do_others.Goals as goal

pub returns : goal.returns
returns g c =
    let inv = c.loop-task.invariant in
    let boards = c.args.boards.now in
    let may_find = g.S.CardSolver.may_find_cards c.args.means.now.solver.now in
    let whole : (task : ℕ) → task < 5 * length boards → IsSome (slice_index_or c.loop-task.noted.items task None) =
    λ task within. inv.whole task (omega (arith, within, inv.len, c.loop-task-test.false)) in
    rw c.new.ensures (found_on may_find c.args.budget boards c.loop-task.noted.items inv.noted whole)

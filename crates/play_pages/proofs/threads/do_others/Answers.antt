use Rattle.std.proofs.Common.{ℕ, ◌<◌, None, length, IsSome, arith}
use Rattle.std.specs.Prelude.{slice_index_or}
use Rattle.play_pages.proofs.NoteLaws.{found_on}
use Rattle.play_pages.proofs.threads.do_others.Goals as goal

pub returns-clause-found : goal.returns-clause-found
returns-clause-found g c =
    let inv = c.loop-task.invariant in
    let games = c.args.games.now in
    let may_find = g.S.PlaySolver.may_find_play c.args.solver.now in
    let whole : (task : ℕ) → task < length games → IsSome (slice_index_or c.loop-task.noted.items task None) =
    λ task within. inv.whole task (omega (arith, within, inv.len, c.loop-task-test.false)) in
    rw c.new.ensures (found_on may_find c.args.query games c.loop-task.noted.items inv.noted whole)

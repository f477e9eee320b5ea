-- What is noted is what the tasks found, and the tasks so far are noted.
use Rattle.std.proofs.Common.{◌≡◌, ◌<◌, ℕ, None, length}
use Rattle.std.specs.Prelude.{vec_len, slice_index_or, IsSome}
use Rattle.play_pages.specs.Tasks.{AreNoted}
use Rattle.play_pages.proofs.threads.do_others.Given as goal

abbrev pub invariant-loop-task : goal.invariant-loop-task
invariant-loop-task g l = record {
  len : vec_len l.noted ≡ length l.games;
  noted : AreNoted (g.S.PlaySolver.may_find_play l.solver) l.query l.games l.noted.items;
  whole : (place : ℕ) → place < l.task → IsSome (slice_index_or l.noted.items place None);
}

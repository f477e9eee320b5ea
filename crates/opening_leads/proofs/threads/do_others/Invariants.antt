-- What is noted is what the tasks found, and the tasks so far are noted.
use Rattle.std.proofs.Common.{◌≡◌, ◌<◌, ◌*◌, ℕ, None, length}
use Rattle.std.specs.Prelude.{vec_len, slice_index_or, IsSome}
use Rattle.opening_leads.specs.Tasks.{AreNoted}
use Rattle.opening_leads.proofs.threads.do_others.Given as goal

abbrev pub invariant-loop-task : goal.invariant-loop-task
invariant-loop-task g l = record {
  len : vec_len l.noted ≡ 5 * length l.boards;
  noted : AreNoted (g.S.CardSolver.may_find_cards l.means.solver.now) l.budget l.boards l.noted.items;
  whole : (place : ℕ) → place < l.task → IsSome (slice_index_or l.noted.items place None);
}

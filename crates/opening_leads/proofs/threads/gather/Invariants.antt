-- What is noted is what the tasks of these shares found.
use Rattle.std.proofs.Common.{◌≡◌, ◌*◌, length, All}
use Rattle.std.specs.Prelude.{vec_len}
use Rattle.opening_leads.specs.Tasks.{IsShare, AreNoted}
use Rattle.opening_leads.proofs.threads.gather.Given as goal

abbrev pub invariant-loop-share : goal.invariant-loop-share
invariant-loop-share g l = record {
  len : vec_len l.noted ≡ 5 * length l.boards;
  noted : AreNoted (g.S.CardSolver.may_find_cards l.means.solver.now) l.budget l.boards l.noted.items;
  left : All (IsShare (g.S.CardSolver.may_find_cards l.means.solver.now) l.budget l.boards) l.shares.items;
}

abbrev pub decreases-loop-share : goal.decreases-loop-share
decreases-loop-share g l = vec_len l.shares

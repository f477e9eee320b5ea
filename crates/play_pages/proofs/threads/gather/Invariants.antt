-- What is noted is what the tasks of these shares found.
use Rattle.std.proofs.Common.{◌≡◌, length, All}
use Rattle.std.specs.Prelude.{vec_len}
use Rattle.play_pages.specs.Tasks.{IsShare, AreNoted}
use Rattle.play_pages.proofs.threads.gather.Given as goal

abbrev pub invariant-loop-share : goal.invariant-loop-share
invariant-loop-share g l = record {
  len : vec_len l.noted ≡ length l.games;
  noted : AreNoted (g.S.PlaySolver.may_find_play l.solver) l.query l.games l.noted.items;
  left : All (IsShare (g.S.PlaySolver.may_find_play l.solver) l.query l.games) l.shares.items;
}

abbrev pub decreases-loop-share : goal.decreases-loop-share
decreases-loop-share g l = vec_len l.shares

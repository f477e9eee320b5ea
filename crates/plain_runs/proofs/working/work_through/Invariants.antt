-- Each turn adds an event at least, at moments that the clock told, and leaves no lease held and none that was not worked on.
use Rattle.std.proofs.Common.{◌≡◌, ◌≤◌, [], length}
use Rattle.lease_book.specs.Histories.{held_after}
use Rattle.plain_runs.specs.Asking.{AreWorkedOn}
use Rattle.lease_book.specs.Moments.{AreTimed}
use Rattle.plain_runs.proofs.working.work_through.Given as goal

abbrev pub invariant-loop-turn : goal.invariant-loop-turn
invariant-loop-turn g l =
    record {
      terms : l.book.terms ≡ l.initial.book.terms;
      turns : l._turn ≤ length l.book.events;
      none_held : held_after l.book.events ≡ [];
      worked_on : AreWorkedOn (g.S.Solver.may_find l.solver) l.budget l.book.terms.boards l.book.events;
      timed : AreTimed (g.C.Clock.may_tell l.clock) l.book.events;
    }

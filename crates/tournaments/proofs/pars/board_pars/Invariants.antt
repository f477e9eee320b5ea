-- The boards so far have their pars.
use Rattle.std.proofs.Common.{take}
use Rattle.std.specs.List.{enumerate_from}
use Rattle.tournaments.specs.BookResults.{book_results}
use Rattle.tournaments.specs.Pages.{AreSmallPars}
use Rattle.tournaments.proofs.ParLaws.{AreParsSoFar}
use Rattle.tournaments.proofs.pars.board_pars.Given as goal

abbrev pub invariant-loop-place : goal.invariant-loop-place
invariant-loop-place l = record {
  pars : AreParsSoFar (book_results l.book.terms.boards l.book.events) (take l.place (enumerate_from 0 l.conditions.items)) l.pars.items;
  small : AreSmallPars l.pars.items;
}

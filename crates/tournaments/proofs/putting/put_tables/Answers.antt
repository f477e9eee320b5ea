-- What is written is the page of the boards.
use Rattle.std.proofs.Common.{◌∙◌, refl}
use Rattle.tournaments.specs.BookResults.{book_results}
use Rattle.tournaments.specs.Pages.{history_text}
use Rattle.tournaments.proofs.CompleteCounts.{complete_alike}
use Rattle.tournaments.proofs.putting.put_tables.Goals as goal

pub returns-in-Ok : goal.returns-in-Ok
returns-in-Ok g c = λ text.
    let results = c.args.results.now in
    let terms = results.book.terms in
    let events = results.book.events in (
      history_text results.pars terms.boards events,
      refl,
      c.in-Ok.ensures.writes,
      record { boards_are = c.in-Ok.ensures.boards; complete_are = c.in-Ok.ensures.complete ∙ complete_alike terms.boards results.pars (book_results terms.boards events) },
    )

pub returns-in-Err : goal.returns-in-Err
returns-in-Err g c =
    let results = c.args.results.now in
    let terms = results.book.terms in
    let events = results.book.events in
    rw c.write_failed.ensures λ text. (
      history_text results.pars terms.boards events,
      refl,
      c.in-Err.ensures.writes,
    )

-- One page is written of the text, whose boards were read.
use Rattle.std.proofs.Common.{◌∙◌}
use Rattle.tournaments.specs.BookResults.{book_results}
use Rattle.tables.specs.TablesText.{printed_with}
use Rattle.whole_texts.proofs.SomeTexts.{some_text}
use Rattle.tournaments.proofs.CompleteCounts.{complete_alike}
use Rattle.tournaments.proofs.putting.put_whole.Goals as goal

pub write_whole-requires : goal.write_whole-requires
write_whole-requires g c =
    let terms = c.args.results.now.book.terms in
    let printed = printed_with c.args.results.now.pars (book_results terms.boards c.args.results.now.book.events) in
    let one = some_text c.args.results.now.renews c.args.text.now terms.boards printed c.requires.boards in
    (one.1.lines, one.1.read)

pub returns-in-Ok : goal.returns-in-Ok
returns-in-Ok g c =
    let results = c.args.results.now in
    let terms = results.book.terms in
    let published = book_results terms.boards results.book.events in
    let one = some_text results.renews c.args.text.now terms.boards (printed_with results.pars published) c.requires.boards in (
      one.0,
      one.1,
      c.in-Ok.ensures.writes one.0 one.1,
      record { boards_are = c.in-Ok.ensures.boards; complete_are = c.in-Ok.ensures.complete ∙ complete_alike terms.boards results.pars published },
    )

pub returns-in-Err : goal.returns-in-Err
returns-in-Err g c =
    let results = c.args.results.now in
    let terms = results.book.terms in
    let published = book_results terms.boards results.book.events in
    let one = some_text results.renews c.args.text.now terms.boards (printed_with results.pars published) c.requires.boards in
    rw c.write_failed.ensures (one.0, one.1, c.in-Err.ensures.writes one.0 one.1)

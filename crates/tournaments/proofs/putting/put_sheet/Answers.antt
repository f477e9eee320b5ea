-- The sheet that is written shows the text's boards, titles and conditions.
use Rattle.std.proofs.Common.{◌∙◌, List, map, refl, sym, subst}
use Rattle.board_conditions.specs.declared.conditions.Conditions.{Conditions}
use Rattle.board_conditions.specs.declared.titles.Titles.{Titles}
use Rattle.board_conditions.specs.Games.{HasConditions}
use Rattle.board_conditions.specs.Titles.{HasTitles, titles_said}
use Rattle.tournaments.specs.BookResults.{book_results}
use Rattle.tables.specs.TablesText.{printed_with}
use Rattle.sheets.specs.Markup.{Shown, page_of}
use Rattle.tournaments.specs.SheetPages.{IsShown}
use Rattle.tournaments.proofs.CompleteCounts.{complete_alike}
use Rattle.tournaments.proofs.putting.put_sheet.Goals as goal

pub returns-in-Ok-write_page : goal.returns-in-Ok-write_page
returns-in-Ok-write_page g c =
    let results = c.args.results.now in
    let text = c.args.text.now in
    let terms = results.book.terms in
    let events = results.book.events in
    let shown : Shown = record {
      head = titles_said c.first_titles.result;
      boards = terms.boards;
      titles = map titles_said c.as_slice.result.now;
      conditions = c.as_slice-2.result.now;
      printed = printed_with results.pars (book_results terms.boards events);
    } in
    let shows : IsShown results.pars text terms.boards events shown = record {
      boards_are = refl;
      printed_is = refl;
      said = record {
        head = c.first_titles.ensures;
        titles = subst (λ (list : List Titles). HasTitles text (map titles_said list)) (sym c.as_slice.ensures.value) c.in-Ok-read_titles.ensures;
        conditions = subst (λ (list : List Conditions). HasConditions text list) (sym c.as_slice-2.ensures.value) c.in-Ok.ensures;
      };
    } in (
      page_of shown,
      record { shown = shown; shows = shows; is = refl },
      c.in-Ok-write_page.ensures.writes,
      record {
        boards_are = c.in-Ok-write_page.ensures.boards;
        complete_are = c.in-Ok-write_page.ensures.complete ∙ complete_alike terms.boards results.pars (book_results terms.boards events);
      },
    )

pub returns : goal.returns
returns g c =
    let results = c.args.results.now in
    let text = c.args.text.now in
    let terms = results.book.terms in
    let events = results.book.events in
    let shown : Shown = record {
      head = titles_said c.first_titles.result;
      boards = terms.boards;
      titles = map titles_said c.as_slice.result.now;
      conditions = c.as_slice-2.result.now;
      printed = printed_with results.pars (book_results terms.boards events);
    } in
    let shows : IsShown results.pars text terms.boards events shown = record {
      boards_are = refl;
      printed_is = refl;
      said = record {
        head = c.first_titles.ensures;
        titles = subst (λ (list : List Titles). HasTitles text (map titles_said list)) (sym c.as_slice.ensures.value) c.in-Ok-read_titles.ensures;
        conditions = subst (λ (list : List Conditions). HasConditions text list) (sym c.as_slice-2.ensures.value) c.in-Ok.ensures;
      };
    } in
    rw c.write_failed.ensures (
      page_of shown,
      record { shown = shown; shows = shows; is = refl },
      c.in-Err.ensures.writes,
    )

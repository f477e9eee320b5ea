-- The book of the run is one over the boards of the text, and its page was put.
use Rattle.std.proofs.Common.{◌≡◌, ◌∙◌, ℕ, List, [], Ok, Err, ap, sym, subst, rules}
use Rattle.pbn_deals.specs.Reading.{TextAnswers}
use Rattle.lease_book.specs.Histories.{Terms}
use Rattle.lease_book.specs.Books.{Ledger}
use Rattle.plain_runs.specs.Working.{IsWholeRun}
use Rattle.tournaments.specs.Pages.{AreTables}
use Rattle.tournaments.specs.Putting.{PutsPage}
use Rattle.tournaments.proofs.PutLaws.{page_filled, page_begun}
use Rattle.plain_runs.proofs.single.make_single.Goals as goal

pub put_page-requires-clause-boards : goal.put_page-requires-clause-boards
put_page-requires-clause-boards g c =
    let boards = c.in_ok-boards.boards.items in
    let opened : Terms = record { boards = boards; term = c.args.term; tries = c.args.tries } in
    let terms : c.work_through.new.book.terms ≡ opened = c.in_ok-work_through.ensures.terms ∙ ap (λ (book : Ledger). book.terms) c.in_ok-book.ensures.book in
    let says = subst (λ (t : List ℕ). TextAnswers t (Ok boards)) (c.as_slice.ensures.value ∙ sym c.as_slice-2.ensures.value) c.in_ok-boards.ensures.boards in
    subst (λ (t : Terms). TextAnswers c.as_slice-2.result.now (Ok t.boards)) (sym terms) says

pub returns-clause-made : goal.returns-clause-made
returns-clause-made g c =
    let boards = c.in_ok-boards.boards.items in
    let given = c.in_ok-work_through.ensures in
    let book = c.work_through.new.book in
    let text = c.in_ok-text.text.items in
    let opened : Terms = record { boards = boards; term = c.args.term; tries = c.args.tries } in
    let terms : book.terms ≡ opened = given.terms ∙ ap (λ (b : Ledger). b.terms) c.in_ok-book.ensures.book in
    let says = subst (λ (t : List ℕ). TextAnswers t (Ok boards)) c.as_slice.ensures.value c.in_ok-boards.ensures.boards in
    let is_run = IsWholeRun (g.S.Solver.may_find c.args.solver.now) (g.C.Clock.may_tell c.args.clock.now) c.args.budget in
    let run : is_run book.terms book.events = record {
      history = c.is_true_history.ensures;
      given_out = given.given_out;
      done = given.done;
      worked_on = given.worked_on;
      timed = given.timed;
    } in
    let put = subst (λ (t : List ℕ). PutsPage (AreTables []) t book (g.O.Sink.state c.args.output.now) (g.O.Sink.state c.put_page.new.output) (Ok c.in_ok-report.report)) c.as_slice-2.ensures.value c.in_ok-report.ensures in
    page_filled is_run (AreTables []) boards _ _ _ _ _ _ text book c.in_ok-text.ensures.all says terms run c.in_ok-report.report put

-- a page that a failed sink has got a beginning of
pub returns-in_err-report-clause-made : goal.returns-in_err-report-clause-made
returns-in_err-report-clause-made g c =
    let boards = c.in_ok-boards.boards.items in
    let given = c.in_ok-work_through.ensures in
    let book = c.work_through.new.book in
    let text = c.in_ok-text.text.items in
    let opened : Terms = record { boards = boards; term = c.args.term; tries = c.args.tries } in
    let terms : book.terms ≡ opened = given.terms ∙ ap (λ (b : Ledger). b.terms) c.in_ok-book.ensures.book in
    let says = subst (λ (t : List ℕ). TextAnswers t (Ok boards)) c.as_slice.ensures.value c.in_ok-boards.ensures.boards in
    let is_run = IsWholeRun (g.S.Solver.may_find c.args.solver.now) (g.C.Clock.may_tell c.args.clock.now) c.args.budget in
    let run : is_run book.terms book.events = record {
      history = c.is_true_history.ensures;
      given_out = given.given_out;
      done = given.done;
      worked_on = given.worked_on;
      timed = given.timed;
    } in
    let put = subst (λ (t : List ℕ). PutsPage (AreTables []) t book (g.O.Sink.state c.args.output.now) (g.O.Sink.state c.put_page.new.output) (Err c.in_err-report.field-0.0)) c.as_slice-2.ensures.value c.in_err-report.ensures in
    let begun = page_begun is_run (AreTables []) boards _ _ _ _ _ _ text book c.in_ok-text.ensures.all says terms run c.in_err-report.field-0.0 put in
    search (rules, begun)

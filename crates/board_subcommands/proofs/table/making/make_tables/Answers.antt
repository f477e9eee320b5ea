-- The book of the run is one over the boards of the text, and its page was put.
use Rattle.std.proofs.Common.{List, ℕ, Ok, Err, sym, subst, rules}
use Rattle.pbn_deals.specs.Reading.{TextAnswers}
use Rattle.lease_book.specs.Histories.{Terms}
use Rattle.farm.specs.Runs.{IsRun}
use Rattle.board_subcommands.specs.Table.Made.{IsSearchedRun, IsSomeRun}
use Rattle.tournaments.specs.Putting.{PutsPage, page_fact}
use Rattle.tournaments.proofs.PutLaws.{page_filled, page_begun}
use Rattle.board_subcommands.proofs.table.making.make_tables.Goals as goal

pub put_page-requires-clause-boards : goal.put_page-requires-clause-boards
put_page-requires-clause-boards g c =
    let made = c.in_ok-text.ensures in
    let says = subst (λ (terms : Terms). TextAnswers c.in_ok-text.text.items (Ok terms.boards)) (sym made.run.terms_are) made.read in
    subst (λ (text : List ℕ). TextAnswers text (Ok c.in_ok-text.book.terms.boards)) (sym c.as_slice.ensures.value) says

pub returns : goal.returns
returns g c =
    let made = c.in_ok-text.ensures in
    let book = c.in_ok-text.book in
    let text = c.in_ok-text.text.items in
    let told = g.C.Clock.may_tell c.args.means.now.clock.now in
    let is_run = IsSearchedRun (g.S.Solver.may_find c.args.means.now.solver.now) (g.C.Clock.may_tell c.args.means.now.clock.now) c.args.options.settings.budget c.in_ok-text.unclaimed in
    let run : is_run book.terms book.events = record { run = subst (λ (terms : Terms). IsRun told terms book.events) (sym made.run.terms_are) made.run.run; searched = made.searched } in
    let put = subst (λ (t : List ℕ). PutsPage (page_fact c.args.options.page) t book (g.O.Sink.state c.args.output.now) (g.O.Sink.state c.put_page.new.output) (Ok c.in_ok-report.report)) c.as_slice.ensures.value c.in_ok-report.ensures in
    page_filled is_run (page_fact c.args.options.page) made.boards _ _ _ _ _ _ text book made.all made.read made.run.terms_are run c.in_ok-report.report put

-- a page that a failed sink has got a beginning of
pub returns-in_err-report : goal.returns-in_err-report
returns-in_err-report g c =
    let made = c.in_ok-text.ensures in
    let book = c.in_ok-text.book in
    let text = c.in_ok-text.text.items in
    let told = g.C.Clock.may_tell c.args.means.now.clock.now in
    let is_run = IsSomeRun (g.S.Solver.may_find c.args.means.now.solver.now) (g.C.Clock.may_tell c.args.means.now.clock.now) c.args.options.settings.budget in
    let run : is_run book.terms book.events = (c.in_ok-text.unclaimed, record { run = subst (λ (terms : Terms). IsRun told terms book.events) (sym made.run.terms_are) made.run.run; searched = made.searched }) in
    let put = subst (λ (t : List ℕ). PutsPage (page_fact c.args.options.page) t book (g.O.Sink.state c.args.output.now) (g.O.Sink.state c.put_page.new.output) (Err c.in_err-report.field-0.0)) c.as_slice.ensures.value c.in_err-report.ensures in
    let begun = page_begun is_run (page_fact c.args.options.page) made.boards _ _ _ _ _ _ text book made.all made.read made.run.terms_are run c.in_err-report.field-0.0 put in
    search (rules, begun)

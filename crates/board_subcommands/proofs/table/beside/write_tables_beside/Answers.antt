-- The book of the run is one over the boards of the text, and its page was put.
use Rattle.std.proofs.Common.{◌≡◌, List, ℕ, false, Ok, Err, refl, sym, ap, ◌∙◌, subst, rules}
use Rattle.pbn_deals.specs.Reading.{TextAnswers}
use Rattle.lease_book.specs.Histories.{Terms}
use Rattle.farm.specs.Searched.{AreSearched}
use Rattle.board_subcommands.specs.Table.Beside.{IsRunAfter, IsRunBesideSome}
use Rattle.board_subcommands.specs.declared.notes.Notes.{Notes}
use Rattle.board_subcommands.specs.declared.finished_runs.FinishedRun.{FinishedRun}
use Rattle.tournaments.specs.Putting.{PutsPage, page_fact}
use Rattle.tournaments.proofs.PutLaws.{page_filled, page_begun}
use Rattle.board_subcommands.proofs.BesideLaws.{unmade}
use Rattle.board_subcommands.proofs.table.beside.write_tables_beside.Goals as goal

-- nothing was written
pub returns-in_err-text : goal.returns-in_err-text
returns-in_err-text g c =
    unmade (g.F.Read.remaining c.args.file) (g.S.Solver.may_find c.args.making.means.now.solver.now) (g.C.Clock.may_tell c.args.making.means.now.clock.now) c.args.making.options _ _ (g.O.Sink.state c.args.output.now) c.in_err-text.field-0.0 c.from_residual.result c.in_err-text.ensures c.from_residual.ensures.1

pub put_page-requires-clause-boards : goal.put_page-requires-clause-boards
put_page-requires-clause-boards g c =
    let made = c.in_ok-text.ensures in
    let says = subst (λ (terms : Terms). TextAnswers c.in_ok-text.text.items (Ok terms.boards)) (sym made.terms_are) made.boards_are in
    subst (λ (text : List ℕ). TextAnswers text (Ok c.in_ok-text.book.terms.boards)) (sym c.as_slice.ensures.value) says

pub returns : goal.returns
returns g c =
    let made = c.in_ok-text.ensures in
    let book = c.in_ok-text.book in
    let text = c.in_ok-text.text.items in
    let page = c.args.making.options.page in
    let is_run = IsRunAfter (g.F.Read.remaining c.args.file) c.in_ok-text.read (g.C.Clock.may_tell c.args.making.means.now.clock.now) (AreSearched (g.S.Solver.may_find c.args.making.means.now.solver.now) c.args.making.options.settings.budget c.in_ok-text.unclaimed) c.in_ok-text.shown in
    let run = subst (λ (terms : Terms). is_run terms book.events) (sym made.terms_are) made.run in
    let said = ap (λ (o : FinishedRun). o.notes) c.outcome_of.ensures in
    let same_notes : record c.outcome_of.result.notes { read_only = false } ≡ c.outcome_of.result.notes =
    ap (λ (n : Notes). let m : Notes = record n { read_only = false } in m) said ∙ sym said in
    let put = subst (λ (t : List ℕ). PutsPage (page_fact page) t book (g.O.Sink.state c.args.output.now) (g.O.Sink.state c.put_page.new.output) (Ok c.in_ok-report.report)) c.as_slice.ensures.value c.in_ok-report.ensures in (
      c.in_ok-report.report,
      c.in_ok-text.unclaimed,
      (c.outcome_of.result, c.outcome_of.ensures, refl, same_notes),
      page_filled is_run (page_fact page) made.boards _ _ _ _ _ _ text book made.all made.boards_are made.terms_are run c.in_ok-report.report put,
    )

-- a page that a failed sink has got a beginning of
pub returns-in_err-report : goal.returns-in_err-report
returns-in_err-report g c =
    let made = c.in_ok-text.ensures in
    let book = c.in_ok-text.book in
    let text = c.in_ok-text.text.items in
    let page = c.args.making.options.page in
    let is_run = IsRunBesideSome (g.F.Read.remaining c.args.file) (g.S.Solver.may_find c.args.making.means.now.solver.now) (g.C.Clock.may_tell c.args.making.means.now.clock.now) c.args.making.options.settings.budget in
    let run = subst (λ (terms : Terms). is_run terms book.events) (sym made.terms_are) (c.in_ok-text.read, c.in_ok-text.unclaimed, made.run.run) in
    let put = subst (λ (t : List ℕ). PutsPage (page_fact page) t book (g.O.Sink.state c.args.output.now) (g.O.Sink.state c.put_page.new.output) (Err c.in_err-report.field-0.0)) c.as_slice.ensures.value c.in_err-report.ensures in
    let begun = page_begun is_run (page_fact page) made.boards _ _ _ _ _ _ text book made.all made.boards_are made.terms_are run c.in_err-report.field-0.0 put in
    search (rules, begun)

-- The book in which the evidence is shown is one over the boards of the text, and the farm went on from it.
use Rattle.std.proofs.Common.{◌≡◌, ℕ, List, length, Ok, ap, sym, ◌∙◌, subst}
use Rattle.pbn_deals.specs.Reading.{TextAnswers}
use Rattle.evidence.specs.Wholes.{Whole}
use Rattle.lease_book.specs.Books.{Ledger}
use Rattle.lease_book.specs.declared.events.Event.{Event}
use Rattle.lease_book.specs.Histories.{Terms}
use Rattle.streams.proofs.ReadLaws.{Loses-all}
use Rattle.audits.specs.Reads.{sections_of, ReadsUntil}
use Rattle.farm.specs.Searched.{AreSearched}
use Rattle.board_subcommands.specs.Audit.Runs.{unread}
use Rattle.board_subcommands.specs.Table.Beside.{IsRunAfter, terms_beside}
use Rattle.board_subcommands.proofs.BesideLaws.{run_beside, halted_so}
use Rattle.board_subcommands.proofs.table.beside.make_book_beside.Goals as goal

pub returns-in-Ok-resume_farm : goal.returns-in-Ok-resume_farm
returns-in-Ok-resume_farm g c =
    let shown = c.in-Ok.ensures.ok in
    let goes = c.in-Ok-resume_farm.ensures.book in
    let may_tell = g.C.Clock.may_tell c.args.means.now.clock.now in
    let may_find = g.S.Solver.may_find c.args.means.now.solver.now in
    let budget = c.args.settings.budget in
    let unclaimed = c.in-Ok-resume_farm.unclaimed in
    let is_searched = AreSearched may_find budget unclaimed in
    let boards = c.in_ok-boards.boards.items in
    let book = c.in-Ok-resume_farm.book in
    let left = c.show_evidence.new.evidence in
    let opened = ap (λ (b : Ledger). b.terms) c.in_ok-book.ensures.book in
    let tried = ap (λ (n : ℕ). let t : Terms = record { boards = boards; term = c.args.settings.term; tries = n } in t) c.tries_beside.ensures in
    let terms : book.terms ≡ terms_beside boards c.args.settings = goes.on.terms_are ∙ shown.shows.terms_are ∙ opened ∙ tried in
    let told = g.F.Read.remaining c.args.file in
    let run = run_beside may_find may_tell budget c.now-now.result (sections_of shown.parts) c.in_ok-book.book c.show_evidence.new.book book unclaimed c.now-now.ensures shown.shows goes c.in-Ok-resume_farm.ensures.searched in
    record {
      all = c.in_ok-text.ensures.all;
      boards = boards;
      boards_are = subst (λ (t : List ℕ). TextAnswers t (Ok boards)) c.as_slice.ensures.value c.in_ok-boards.ensures.boards;
      terms_are = terms;
      run = subst (λ (t : Terms). IsRunAfter told c.in-Ok.read may_tell is_searched (length c.history-shown.result.now) t book.events) terms (record {
        run = record {
          left = left;
          parts = shown.parts;
          read_is = subst (λ (e : Whole). ReadsUntil e left shown.parts c.in-Ok.read.damage c.in-Ok.read.ended) (c.new-evidence.ensures ∙ ap unread c.new.ensures) shown.read_is;
          run = run.0;
        };
        shown_are = ap (λ (e : List Event). length e) (run.1 ∙ sym c.history-shown.ensures.events);
      });
    }

pub returns-in_default : goal.returns-in_default
returns-in_default g c = Loses-all c.in_ok-text.ensures.all

pub returns-in-Err : goal.returns-in-Err
returns-in-Err g c =
    let says = subst (λ (t : List ℕ). TextAnswers t (Ok c.in_ok-boards.boards.items)) c.as_slice.ensures.value c.in_ok-boards.ensures.boards in
    halted_so (g.F.Read.remaining c.args.file) (g.S.Solver.may_find c.args.means.now.solver.now) (g.C.Clock.may_tell c.args.means.now.clock.now) c.args.settings _ _ c.in_ok-text.text.items c.in_ok-boards.boards.items c.in-Err.fault c.halted.result c.halted.ensures c.in-Err.ensures.fault c.in_ok-text.ensures.all says

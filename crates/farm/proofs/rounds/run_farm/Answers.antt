use Rattle.std.proofs.Common.{ap}
use Rattle.std.proofs.lemmas.Result.{IfOk-weaker}
use Rattle.lease_book.specs.Books.{Ledger}
use Rattle.farm.specs.Searched.{AreSearched, AreSearchedSince}
use Rattle.farm.proofs.Searching.{searched_all}
use Rattle.farm.proofs.rounds.run_farm.Goals as goal

pub returns-clause-searched : goal.returns-clause-searched
returns-clause-searched g c =
    let may_find = g.S.Solver.may_find c.args.means.now.solver.now in
    let budget = c.args.settings.budget in
    let book = c.in_ok-book.book in
    IfOk-weaker c.resume_farm.result (λ run. AreSearchedSince may_find budget book run.0 run.1) (λ run. AreSearched may_find budget run.1 run.0.terms run.0.events)
    (λ run since. searched_all may_find budget book run.0 run.1 (ap (λ (b : Ledger). b.events) c.in_ok-book.ensures.book) since)
    c.resume_farm.ensures.searched

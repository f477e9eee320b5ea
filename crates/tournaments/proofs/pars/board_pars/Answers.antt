use Rattle.std.proofs.Common.{arith, subst}
use Rattle.std.proofs.lemmas.List.Elements.{All-nil}
use Rattle.tournaments.specs.BookResults.{book_results}
use Rattle.board_conditions.specs.declared.conditions.Conditions.{Conditions}
use Rattle.tournaments.specs.Pars.{IsBoardPar}
use Rattle.tournaments.proofs.ParLaws.{one_more, small_more, all_of}
use Rattle.tournaments.proofs.pars.board_pars.Goals as goal

pub loop-place-init : goal.loop-place-init
loop-place-init c = rw c.new-pars.ensures.items (record { pars = tt; small = All-nil _ })

pub loop-place-preserved : goal.loop-place-preserved
loop-place-preserved c =
    let book = c.args.book.now in
    let par = subst (λ (conditions : Conditions). IsBoardPar (book_results book.terms.boards book.events c.loop-place.place) conditions c.board_par-par.result) c.index.ensures c.board_par-par.ensures.par in
    rw (c.push.ensures.items, c.if-is_err.ensures.negation) (record {
      pars = one_more (book_results book.terms.boards book.events) c.in-Ok.conditions.items c.loop-place.place c.index.result.now c.loop-place.pars.items c.board_par-par.result (omega (arith, c.loop-place-test.true, c.len-place-end.ensures)) c.loop-place.invariant.pars par;
      small = small_more c.loop-place.pars.items c.board_par-par.result c.loop-place.invariant.small c.board_par-par.ensures.small;
    })

pub returns-clause-pars : goal.returns-clause-pars
returns-clause-pars c =
    let book = c.args.book.now in
    record {
      conditions = c.in-Ok.conditions.items;
      has = c.in-Ok.ensures;
      are = all_of (book_results book.terms.boards book.events) c.in-Ok.conditions.items c.loop-place.place c.loop-place.pars.items (omega arith) c.loop-place.invariant.pars;
      small = c.loop-place.invariant.small;
    }

use Rattle.lease_desk.specs.Desks.{terms_of, start_of}
use Rattle.farm.proofs.Runs.{is_round}
use Rattle.farm.proofs.running.work_round.Goals as goal

pub returns : goal.returns
returns g c =
    let desk = c.in_ok-desk.desk in
    is_round g.C.Clock.may_tell g.S.Solver.may_find _ (terms_of desk) (start_of desk) c.in_ok-desk.chairs.items c.in_ok-chairs.chairs.items c.close-book.result.chairs.items c.close-book.result.book c.in_ok-chairs.steps c.in_ok-chairs.ensures c.close-book.ensures
    c.args.book c.in_ok-desk.ensures.terms_are c.in_ok-desk.ensures.start_is

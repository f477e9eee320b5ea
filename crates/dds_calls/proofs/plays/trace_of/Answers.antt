use Rattle.std.proofs.Common.{length, ap, arith}
use Rattle.std.proofs.lemmas.Int.{ints}
use Rattle.dds_calls.specs.Plays.{IsTraced}
use Rattle.dds_calls.proofs.PlayLaws.{none_traced, one_more, stopped, stopped_by, trace_read}
use Rattle.dds_calls.proofs.plays.trace_of.Goals as goal

pub loop-place-init : goal.loop-place-init
loop-place-init c = none_traced c.args.trace.now c.in-Ok.trick c.begun_with-play.result c.in-Ok.ensures.is_position.legal c.begun_with-play.ensures

pub returns-in_default : goal.returns-in_default
returns-in_default c =
    stopped c.args.board.now c.args.trace.now c.in-Ok.trick c.loop-place.play c.loop-place.place c.in-Ok.ensures c.loop-place.invariant (omega (arith, c.loop-place-test.true, c.count_told-place-end.ensures))
    (λ card traced can. c.in_default.ensures card (omega (arith, ints, traced.0), omega (arith, ints, traced.1)))

pub returns-in-Err-play : goal.returns-in-Err-play
returns-in-Err-play c =
    let traced : IsTraced c.args.trace.now c.loop-place.place c.in-Some.card = (omega (arith, ints, c.in-Some.ensures.0), omega (arith, ints, c.in-Some.ensures.1)) in
    stopped_by c.args.board.now c.args.trace.now c.in-Ok.trick c.loop-place.play c.loop-place.place c.in-Some.card c.in-Err-play._fault c.in-Ok.ensures.is_position.layout_is.layout c.in-Ok.ensures c.loop-place.invariant (omega (arith, c.loop-place-test.true, c.count_told-place-end.ensures)) traced c.in-Err-play.ensures.cases

pub loop-place-preserved : goal.loop-place-preserved
loop-place-preserved c =
    let traced : IsTraced c.args.trace.now c.loop-place.place c.in-Some.card = (omega (arith, ints, c.in-Some.ensures.0), omega (arith, ints, c.in-Some.ensures.1)) in
    one_more c.args.trace.now c.in-Ok.trick c.loop-place.play c.play.new.self c.loop-place.place c.in-Some.card c.loop-place.invariant traced c.in_default-play.ensures.cases.1 c.in_default-play.ensures.ok

pub returns : goal.returns
returns c =
    trace_read c.args.board.now c.args.trace.now c.in-Ok.trick _ c.loop-place.place c.in-Ok.ensures c.loop-place.invariant (omega (arith, c.loop-place-test.false, c.loop-place.auto.place-end, c.count_told-place-end.ensures)) (ap length c.played-given.ensures.played)

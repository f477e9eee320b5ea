use Rattle.dds_calls.proofs.PlayLaws.{told_values}
use Rattle.dds_calls.proofs.plays.told_of.Goals as goal

pub returns-in-Some : goal.returns-in-Some
returns-in-Some c =
    told_values c.args.board.now c.args.trace.now c.in-Ok.read c.in-Ok-certified_play.found.values c.in-Some.told c.in-Ok.ensures c.in-Ok-certified_play.ensures.1.judged.0 c.invariant.ensures c.in-Some.ensures

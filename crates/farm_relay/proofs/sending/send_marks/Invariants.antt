use Rattle.crossbeam_channel.specs.Claims.{view, IsSeatAt}
use Rattle.crossbeam_channel.specs.Ends.{sends_on}
use Rattle.farm_relay.specs.Steps.{PutMarks}
use Rattle.farm_relay.proofs.sending.send_marks.Given as goal

abbrev pub invariant-loop-mark : goal.invariant-loop-mark
invariant-loop-mark g l = IsSeatAt (sends_on l.sender) l.pass × PutMarks l._mark (view l.initial.pass) (view l.pass)

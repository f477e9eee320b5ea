-- What has gone out so far is the beginning of the text up to `gone`.
use Rattle.std.proofs.Common.{length, ◌-◌, ◌≤◌, take}
use Rattle.cards.specs.Devices.{Adds}
use Rattle.cards.proofs.devices.write_all.Given as goal

abbrev pub invariant-loop-gone : goal.invariant-loop-gone
invariant-loop-gone g l = record {
  within : l.gone ≤ length l.text;
  adds : Adds (g.S.Sink.state l.initial.sink) (g.S.Sink.state l.sink) (take l.gone l.text);
}

abbrev pub decreases-loop-gone : goal.decreases-loop-gone
decreases-loop-gone g l = length l.text - l.gone

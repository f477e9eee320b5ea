-- The contracts so far have gone out.
use Rattle.std.proofs.Common.{take}
use Rattle.std.specs.List.{flat_map}
use Rattle.cards.specs.Devices.{Adds}
use Rattle.par.specs.Texts.{next_text}
use Rattle.par.proofs.texts.write_others.Given as goal

abbrev pub invariant-loop-contract : goal.invariant-loop-contract
invariant-loop-contract g l =
    Adds (g.S.Sink.state l.fn.sink) (g.S.Sink.state l.sink) (flat_map next_text (take l.contract-index l.contracts))

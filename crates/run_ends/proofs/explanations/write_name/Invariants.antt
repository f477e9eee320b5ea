-- The bytes so far have been written.
use Rattle.std.proofs.Common.{[], ◌∷◌, take}
use Rattle.std.specs.List.{flat_map}
use Rattle.cards.specs.Devices.{Adds}
use Rattle.run_ends.specs.Explanations.{shown_byte}
use Rattle.run_ends.proofs.explanations.write_name.Given as goal

abbrev pub invariant-loop-byte : goal.invariant-loop-byte
invariant-loop-byte g l =
    Adds (g.E.Sink.state l.fn.errors) (g.E.Sink.state l.errors) (flat_map (λ byte. shown_byte byte ∷ []) (take l.byte-index l.name))

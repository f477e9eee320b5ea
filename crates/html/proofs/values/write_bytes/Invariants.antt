-- The characters so far have gone out.
use Rattle.std.proofs.Common.{take}
use Rattle.std.specs.List.{flat_map}
use Rattle.cards.specs.Devices.{Adds}
use Rattle.html.specs.Values.{char_text, shown_char}
use Rattle.html.proofs.values.write_bytes.Given as goal

abbrev pub invariant-loop-byte : goal.invariant-loop-byte
invariant-loop-byte g l =
    Adds (g.S.Sink.state l.fn.sink) (g.S.Sink.state l.sink)
    (flat_map (λ byte. char_text (shown_char byte)) (take l.byte-index l.bytes))

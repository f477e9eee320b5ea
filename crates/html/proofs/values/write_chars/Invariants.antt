-- What has gone out and what is left make the whole.
use Rattle.std.proofs.Common.{◌≡◌, ℕ, List, ◌++◌, chars, IsUtf8}
use Rattle.std.specs.Str.Iter.{chars_rest}
use Rattle.cards.specs.Devices.{Adds}
use Rattle.html.specs.Values.{chars_text}
use Rattle.html.proofs.values.write_chars.Given as goal

abbrev pub invariant-loop-c : goal.invariant-loop-c
invariant-loop-c g l =
    IsUtf8 (chars_rest l.c-iterator)
    × (gone : List ℕ) × Adds (g.S.Sink.state l.fn.sink) (g.S.Sink.state l.sink) gone
    × (gone ++ chars_text (chars (chars_rest l.c-iterator)) ≡ chars_text (chars l.fn.text))

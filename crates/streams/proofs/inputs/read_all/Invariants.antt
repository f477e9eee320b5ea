-- The text so far is the beginning of what was left, at least a byte a turn.
use Rattle.std.proofs.Common.{◌≤◌, ◌≡◌, length, vec_len}
use Rattle.cards.specs.Devices.{TakesWhereTold}
use Rattle.streams.proofs.inputs.read_all.Given as goal

abbrev pub invariant-loop-turn : goal.invariant-loop-turn
invariant-loop-turn g l =
    let old = g.S.Source.state l.initial.source in
    let new = g.S.Source.state l.source in
    record {
      front : TakesWhereTold old.bytes new.bytes l.text.items;
      none_failed : new.failed ≡ old.failed;
      turns : l._turn ≤ vec_len l.text;
      room : length l.buffer ≡ 16384;
    }

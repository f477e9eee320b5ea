-- These bytes of the line were read so far.
use Rattle.std.proofs.Common.{◌≡◌, ℕ, List, length, take, Contains}
use Rattle.cards.specs.Devices.{TakesWhereTold}
use Rattle.play_dialogues.specs.Words.{letters_of}
use Rattle.play_dialogues.proofs.lines.next_line.Given as goal

abbrev pub invariant-loop-turn : goal.invariant-loop-turn
invariant-loop-turn g l = record {
  seen : List ℕ;
  taken : TakesWhereTold (g.S.Source.state l.fn.source).bytes (g.S.Source.state l.source).bytes seen;
  none_failed : (g.S.Source.state l.source).failed ≡ (g.S.Source.state l.fn.source).failed;
  counted : length seen ≡ l.turn;
  letters_are : l.letters.items ≡ take 6 (letters_of seen);
  one : Contains seen 10 → ⊥;
}

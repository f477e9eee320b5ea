-- None of the bytes so far is one of the signs.
use Rattle.std.proofs.Common.{◌≡◌, ◌++◌, take, drop}
use Rattle.recorded_plays.specs.Words.{before_any}
use Rattle.recorded_plays.proofs.words.before_any.Given as goal

abbrev pub invariant-loop-i : goal.invariant-loop-i
invariant-loop-i l = take l.i l.text ++ before_any l.signs (drop l.i l.text) ≡ before_any l.signs l.text

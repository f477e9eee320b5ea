-- No blank has come yet.
use Rattle.std.proofs.Common.{take}
use Rattle.pbn_deals.proofs.WordLemmas.{AreNoBlanks}
use Rattle.pbn_deals.proofs.hands.first_word.Given as goal

abbrev pub invariant-loop-i : goal.invariant-loop-i
invariant-loop-i l = AreNoBlanks (take l.i l.text)

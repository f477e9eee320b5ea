-- None of the bytes so far is a blank.
use Rattle.std.proofs.Common.{◌≡◌, false, take, All}
use Rattle.pbn_deals.specs.Letters.{is_blank}
use Rattle.recorded_plays.proofs.slots.cut_word.Given as goal

abbrev pub invariant-loop-i : goal.invariant-loop-i
invariant-loop-i l = All (λ byte. is_blank byte ≡ false) (take l.i l.text)

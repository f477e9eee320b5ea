-- After the blanks passed so far the text goes on as it does after all of its blanks.
use Rattle.std.proofs.Common.{◌≡◌, drop}
use Rattle.pbn_deals.specs.DealValue.{after_blanks}
use Rattle.board_conditions.proofs.words.after_blanks.Given as goal

abbrev pub invariant-loop-i : goal.invariant-loop-i
invariant-loop-i l = after_blanks (drop l.i l.text) ≡ after_blanks l.text

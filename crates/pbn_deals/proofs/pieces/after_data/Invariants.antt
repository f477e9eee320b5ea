-- No sign has come yet.
use Rattle.std.proofs.Common.{◌≡◌, false, take, All}
use Rattle.pbn_deals.specs.FirstPieces.{is_sign}
use Rattle.pbn_deals.proofs.pieces.after_data.Given as goal

abbrev pub invariant-loop-i : goal.invariant-loop-i
invariant-loop-i l = All (λ byte. is_sign byte ≡ false) (take l.i l.text)

use Rattle.std.proofs.Common.{◌≡◌, take}
use Rattle.patterns.proofs.HoldingLaws.{holders_above}
use Rattle.patterns.proofs.suit_words.SuitWord.of_layout.Given as goal

-- the owners are the holders met so far, up to the depth
abbrev pub invariant-loop-above : goal.invariant-loop-above
invariant-loop-above l = l.owners.items ≡ take l.depth (holders_above l.words l.above)

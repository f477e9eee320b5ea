use Rattle.std.proofs.Common.{◌≡◌, take}
use Rattle.patterns.proofs.suit_words.SuitWord.part.Given as goal

-- the owners so far
abbrev pub invariant-loop-place : goal.invariant-loop-place
invariant-loop-place l = l.owners.items ≡ take l.place l.self.owners

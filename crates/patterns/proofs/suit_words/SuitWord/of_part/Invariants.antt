use Rattle.std.proofs.Common.{◌≡◌, take}
use Rattle.patterns.specs.Words.{owner_bits}
use Rattle.patterns.proofs.suit_words.SuitWord.of_part.Given as goal

-- the bits of the owners so far
abbrev pub invariant-loop-place : goal.invariant-loop-place
invariant-loop-place l = l.bits ≡ owner_bits (take l.place l.owner-items)

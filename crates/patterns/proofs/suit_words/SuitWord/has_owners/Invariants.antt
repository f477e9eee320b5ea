use Rattle.std.proofs.Common.{◌≡◌, ◌≤◌, take}
use Rattle.patterns.proofs.HoldingLaws.{holders_above}
use Rattle.patterns.proofs.suit_words.SuitWord.has_owners.Given as goal

-- the holders met so far are the first owners
abbrev pub invariant-loop-above : goal.invariant-loop-above
invariant-loop-above l = record {
  within : l.seen ≤ l.count;
  so_far : holders_above l.words l.above ≡ take l.seen l.self.owners;
}

use Rattle.std.proofs.Common.{◌≡◌, ◌<◌, ◌≤◌, ◌*◌, ◌/◌, ◌%◌, ◌^◌}
use Rattle.patterns.specs.Words.{suit_in, owner_count, owners_in}
use Rattle.patterns.proofs.Removals.{kept}
use Rattle.patterns.proofs.suit_words.SuitWord.without.Given as goal

-- what is left to be taken out of the owners so far leaves what all places leave of all owners
abbrev pub invariant-loop-taken : goal.invariant-loop-taken
invariant-loop-taken l = record {
  within : owner_count l.word ≤ 13;
  bits : l.word / 2 ^ 20 < 2 ^ (2 * owner_count l.word);
  places : l.taken < 2 ^ owner_count l.word;
  lens : l.word % 2 ^ 16 ≡ l.initial.word % 2 ^ 16;
  same : kept l.taken (owners_in (owner_count l.word) (l.word / 2 ^ 20)) ≡ kept l.places (suit_in l.initial.word).owners;
}

abbrev pub decreases-loop-taken : goal.decreases-loop-taken
decreases-loop-taken l = l.taken

use Rattle.std.proofs.Common.{◌/◌, ◌^◌}
use Rattle.std.proofs.lemmas.Nat.{and_mask}
use Rattle.patterns.proofs.suit_words.nibble.Goals as goal

pub returns-clause-value : goal.returns-clause-value
returns-clause-value c = and_mask (c.args.word / 2 ^ c.args.from) 4

use Rattle.std.proofs.Common.{◌∙◌}
use Rattle.patterns.proofs.SuitWords.{owner_told}
use Rattle.patterns.proofs.suit_words.SuitWord.owner_in.Goals as goal

pub returns : goal.returns
returns c = c.owner_at.ensures ∙ owner_told c.self.inside.word c.args.place c.args.self.now c.self.view_is c.requires

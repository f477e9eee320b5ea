use Rattle.std.proofs.Common.{sym}
use Rattle.patterns.proofs.SuitWords.{words_told}
use Rattle.patterns.proofs.shape_words.ShapeWords.words.Goals as goal

pub returns-clause-words : goal.returns-clause-words
returns-clause-words c = sym (words_told c.self.invariant c.self.view_is)

use Rattle.std.proofs.Common.{length, sym, ◌∙◌, ap}
use Rattle.patterns.specs.Shapes.{SuitShape}
use Rattle.patterns.proofs.SuitWords.{length-owners_in_of}
use Rattle.patterns.proofs.suit_words.SuitWord.owner_count.Goals as goal

pub returns-clause-count : goal.returns-clause-count
returns-clause-count c = c.nibble.ensures.value ∙ (sym (length-owners_in_of c.self.inside.word) ∙ ap (λ (s : SuitShape). length s.owners) c.self.view_is)

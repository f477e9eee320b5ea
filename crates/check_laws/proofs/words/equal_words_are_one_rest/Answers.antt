use Rattle.check_laws.proofs.ShapeWordLaws.{same_words}
use Rattle.check_laws.proofs.words.equal_words_are_one_rest.Goals as goal

pub returns : goal.returns
returns c = λ one other is is'. same_words 0 12 one other is is'

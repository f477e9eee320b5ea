use Rattle.check_laws.proofs.ShapeWordLaws.{words_make}
use Rattle.check_laws.proofs.words.words_make_their_pattern.Goals as goal

pub returns : goal.returns
returns c = λ shape answer is meets. words_make 1 13 shape answer is meets

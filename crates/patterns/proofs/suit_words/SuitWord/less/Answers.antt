use Rattle.patterns.proofs.LesserLengths.{left_of_suit}
use Rattle.patterns.proofs.suit_words.SuitWord.less.Goals as goal

pub overflow_sub-result : goal.overflow_sub-result
overflow_sub-result c = (left_of_suit c.args.self c.self.inside.word c.args.lens c.lesser_lens.result c.self.view_is c.self.invariant c.lesser_lens.ensures.below c.lesser_lens.ensures.lesser).fits

pub invariant_of-result : goal.invariant_of-result
invariant_of-result c = (left_of_suit c.args.self c.self.inside.word c.args.lens c.lesser_lens.result c.self.view_is c.self.invariant c.lesser_lens.ensures.below c.lesser_lens.ensures.lesser).is_word

pub returns-clause-lens : goal.returns-clause-lens
returns-clause-lens c = (left_of_suit c.args.self c.self.inside.word c.args.lens c.lesser_lens.result c.self.view_is c.self.invariant c.lesser_lens.ensures.below c.lesser_lens.ensures.lesser).each

pub returns-clause-owners : goal.returns-clause-owners
returns-clause-owners c = (left_of_suit c.args.self c.self.inside.word c.args.lens c.lesser_lens.result c.self.view_is c.self.invariant c.lesser_lens.ensures.below c.lesser_lens.ensures.lesser).owners

use Rattle.patterns.proofs.Removals.{word_taken}
use Rattle.patterns.proofs.suit_words.without_place.Goals as goal

pub overflow_sub-result : goal.overflow_sub-result
overflow_sub-result c = (word_taken c.args.word c.args.place c.ranges.word.fits c.requires).some

pub returns-clause-lens : goal.returns-clause-lens
returns-clause-lens c = (word_taken c.args.word c.args.place c.ranges.word.fits c.requires).lens

pub returns-clause-count : goal.returns-clause-count
returns-clause-count c = (word_taken c.args.word c.args.place c.ranges.word.fits c.requires).count

pub returns-clause-owners : goal.returns-clause-owners
returns-clause-owners c = (word_taken c.args.word c.args.place c.ranges.word.fits c.requires).owners

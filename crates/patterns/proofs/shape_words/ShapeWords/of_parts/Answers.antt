use Rattle.cards.specs.declared.suits.Suit.TheVariants.{Spades, Hearts, Diamonds, Clubs}
use Rattle.patterns.proofs.PartLaws.{part_has_word}
use Rattle.patterns.proofs.shape_words.ShapeWords.of_parts.Goals as goal

pub of_part-requires : goal.of_part-requires
of_part-requires c = part_has_word c.args.parts.now _ Spades c.type_inv.parts c.requires

pub of_part-requires-2 : goal.of_part-requires-2
of_part-requires-2 c = part_has_word c.args.parts.now _ Hearts c.type_inv.parts c.requires

pub of_part-requires-3 : goal.of_part-requires-3
of_part-requires-3 c = part_has_word c.args.parts.now _ Diamonds c.type_inv.parts c.requires

pub of_part-requires-4 : goal.of_part-requires-4
of_part-requires-4 c = part_has_word c.args.parts.now _ Clubs c.type_inv.parts c.requires

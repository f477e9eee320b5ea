-- Each hand has the form that its word needs.
use Rattle.cards.specs.declared.seats.Seat.TheVariants.{North, East, South, West}
use Rattle.dds_calls.proofs.hands.words_of.Goals as goal

pub word_of-requires : goal.word_of-requires
word_of-requires c = c.requires North

pub word_of-requires-2 : goal.word_of-requires-2
word_of-requires-2 c = c.requires East

pub word_of-requires-3 : goal.word_of-requires-3
word_of-requires-3 c = c.requires South

pub word_of-requires-4 : goal.word_of-requires-4
word_of-requires-4 c = c.requires West

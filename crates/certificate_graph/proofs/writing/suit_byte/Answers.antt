use Rattle.std.proofs.Common.{refl}
use Rattle.certificate_graph.proofs.writing.suit_byte.Goals as goal

pub returns-in-Spades : goal.returns-in-Spades
returns-in-Spades c = rw c.in-Spades.is refl

pub returns-in-Hearts : goal.returns-in-Hearts
returns-in-Hearts c = rw c.in-Hearts.is refl

pub returns-in-Diamonds : goal.returns-in-Diamonds
returns-in-Diamonds c = rw c.in-Diamonds.is refl

pub returns-in-Clubs : goal.returns-in-Clubs
returns-in-Clubs c = rw c.in-Clubs.is refl

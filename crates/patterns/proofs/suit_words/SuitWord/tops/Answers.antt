use Rattle.std.proofs.Common.{◌∙◌, ap}
use Rattle.std.specs.Prelude.{count_ones}
use Rattle.patterns.proofs.OwnedPlaces.{count_places}
use Rattle.patterns.proofs.suit_words.SuitWord.tops.Goals as goal

pub returns : goal.returns
returns c = ap count_ones c.places_of.ensures ∙ count_places c.args.seat c.args.self.now.owners

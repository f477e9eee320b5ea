use Rattle.std.proofs.Common.{◌/◌, ◌^◌, ◌≤◌, ◌∙◌, ap, arith}
use Rattle.patterns.specs.Shapes.{SuitShape}
use Rattle.patterns.specs.Words.{owners_in, places_of}
use Rattle.patterns.proofs.OwnedPlaces.{owned_places}
use Rattle.patterns.proofs.suit_words.SuitWord.places_of.Goals as goal

pub returns : goal.returns
returns c =
    let word = c.self.inside.word in
    let count = c.nibble.result in
    let within : count ≤ 13 = omega (arith, c.nibble.ensures.value, c.self.invariant.within) in
    let number = c.number.ensures.place in
    let owned = owned_places (word / 2 ^ 20) count c.args.seat within in
    rw number (owned.owned ∙ (ap (λ k. places_of c.args.seat (owners_in k (word / 2 ^ 20))) c.nibble.ensures.value ∙ ap (λ (s : SuitShape). places_of c.args.seat s.owners) c.self.view_is))

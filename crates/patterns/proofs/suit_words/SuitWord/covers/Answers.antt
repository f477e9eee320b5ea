use Rattle.std.proofs.Common.{refl}
use Rattle.std.proofs.lemmas.Bool.{eq-eqb, ne_eqb}
use Rattle.patterns.proofs.SeatLaws.{told_alike, and_then, and_else}
use Rattle.patterns.proofs.SuitWords.{told_le}
use Rattle.patterns.proofs.CoverBits.{masked_test, covers_by_mask}
use Rattle.patterns.proofs.suit_words.SuitWord.covers.Goals as goal

pub returns-then-self-rest-eq0 : goal.returns-then-self-rest-eq0
returns-then-self-rest-eq0 c =
    let word = c.self.inside.word in
    let other = c.rest.inside.word in
    let alike = masked_test word other c.nibble-count.result c.self.invariant c.nibble-count.ensures.value in
    rw (← c.self.view_is, ← c.rest.view_is) (told_alike
    (and_then alike (told_le c.nibble-count.ensures.value c.nibble.ensures.value) (eq-eqb _ _ c.if-self-rest-eq0.true) refl)
    (covers_by_mask word other c.self.invariant))

pub returns-else-self-rest-eq0 : goal.returns-else-self-rest-eq0
returns-else-self-rest-eq0 c =
    let word = c.self.inside.word in
    let other = c.rest.inside.word in
    let alike = masked_test word other c.nibble-count.result c.self.invariant c.nibble-count.ensures.value in
    rw (← c.self.view_is, ← c.rest.view_is) (told_alike
    (and_else alike (ne_eqb _ _ c.if-self-rest-eq0.false) refl)
    (covers_by_mask word other c.self.invariant))

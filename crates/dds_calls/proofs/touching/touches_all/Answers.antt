-- Each of the cards is looked at.
use Rattle.std.proofs.Common.{◌<◌, length, get_or, subst, arith, below_more}
use Rattle.std.proofs.lemmas.List.{get_or_default}
use Rattle.std.proofs.lemmas.List.Elements.{Contains-get_or}
use Rattle.cards.specs.declared.suits.Suit.TheVariants.{Spades}
use Rattle.cards.specs.declared.pack.Rank.TheVariants.{Two}
use Rattle.cards.specs.declared.pack.Card.{Card}
use Rattle.dds_calls.specs.Touching.{Touch}
use Rattle.dds_calls.proofs.touching.touches_all.Goals as goal

-- what an index past the end would give
abbrev blank : Card
blank = record { suit = Spades; rank = Two }

pub loop-other-preserved : goal.loop-other-preserved
loop-other-preserved c =
    let cards = c.args.cards.now in
    let i = c.loop-other.other-index in
    let within : i < length cards = c.loop-other-test.true in
    below_more _ _ c.loop-other.invariant
    (λ d. subst (λ (other : Card). Touch c.args.layout.now c.args.player c.args.card other) (get_or_default cards i blank d within) c.if-not-do_touch.ensures)

pub returns-then-not-do_touch : goal.returns-then-not-do_touch
returns-then-not-do_touch c =
    let cards = c.args.cards.now in
    (get_or cards c.loop-other.other-index blank, Contains-get_or cards c.loop-other.other-index blank c.loop-other-test.true, c.if-not-do_touch.ensures)

pub returns : goal.returns
returns c =
    λ other at. subst (λ (card : Card). Touch c.args.layout.now c.args.player c.args.card card) at.2
    (c.loop-other.invariant at.0 (omega (arith, at.1, c.loop-other-test.false)) other)

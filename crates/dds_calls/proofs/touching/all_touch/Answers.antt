-- Each of the cards is compared with all.
use Rattle.std.proofs.Common.{◌<◌, length, get_or, subst, arith, below_more}
use Rattle.std.proofs.lemmas.List.{get_or_default}
use Rattle.std.proofs.lemmas.List.Elements.{Contains-get_or}
use Rattle.cards.specs.declared.suits.Suit.TheVariants.{Spades}
use Rattle.cards.specs.declared.pack.Rank.TheVariants.{Two}
use Rattle.cards.specs.declared.pack.Card.{Card}
use Rattle.dds_calls.specs.Touching.{Touch}
use Rattle.dds_calls.proofs.touching.all_touch.Goals as goal

-- what an index past the end would give
abbrev blank : Card
blank = record { suit = Spades; rank = Two }

pub loop-card-preserved : goal.loop-card-preserved
loop-card-preserved c =
    let cards = c.args.cards.now in
    let i = c.loop-card.card-index in
    let within : i < length cards = c.loop-card-test.true in
    below_more _ _ c.loop-card.invariant
    (λ d other listed. subst (λ (card : Card). Touch c.args.layout.now c.args.player card other) (get_or_default cards i blank d within) (c.if-not-touches_all.ensures other listed))

pub returns-then-not-touches_all : goal.returns-then-not-touches_all
returns-then-not-touches_all c =
    let cards = c.args.cards.now in
    let not = c.if-not-touches_all.ensures in
    record {
      one = get_or cards c.loop-card.card-index blank;
      other = not.0;
      has_one = Contains-get_or cards c.loop-card.card-index blank c.loop-card-test.true;
      has_other = not.1;
      apart = not.2;
    }

pub returns : goal.returns
returns c =
    λ one other at listed. subst (λ (card : Card). Touch c.args.layout.now c.args.player card other) at.2
    (c.loop-card.invariant at.0 (omega (arith, at.1, c.loop-card-test.false)) one other listed)

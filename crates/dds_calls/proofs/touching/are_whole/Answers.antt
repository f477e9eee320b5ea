-- Each of the cards is looked at.
use Rattle.std.proofs.Common.{◌<◌, length, get_or, subst, arith, below_more, Contains}
use Rattle.std.proofs.lemmas.List.{get_or_default}
use Rattle.std.proofs.lemmas.List.Elements.{Contains-get_or}
use Rattle.cards.specs.declared.suits.Suit.TheVariants.{Spades}
use Rattle.cards.specs.declared.pack.Rank.TheVariants.{Two}
use Rattle.cards.specs.declared.pack.Card.{Card}
use Rattle.card_values.specs.CardValues.{cards_of}
use Rattle.dds_calls.specs.Touching.{TouchesValue}
use Rattle.dds_calls.proofs.touching.are_whole.Goals as goal

-- what an index past the end would give
abbrev blank : Card
blank = record { suit = Spades; rank = Two }

pub loop-card-preserved : goal.loop-card-preserved
loop-card-preserved c =
    let cards = c.args.cards.now in
    let values = c.args.values.now in
    let i = c.loop-card.card-index in
    let within : i < length cards = c.loop-card-test.true in
    let P : Card → Type 0 = λ card. TouchesValue c.args.layout.now c.args.player values card → Contains (cards_of values) card in
    below_more _ _ c.loop-card.invariant
    (λ d. subst P (get_or_default cards i blank d within) c.if-is_left_out.ensures)

pub returns-then-is_left_out : goal.returns-then-is_left_out
returns-then-is_left_out c =
    let cards = c.args.cards.now in
    record {
      card = get_or cards c.loop-card.card-index blank;
      listed = Contains-get_or cards c.loop-card.card-index blank c.loop-card-test.true;
      touches = c.if-is_left_out.ensures.0;
      lacks = c.if-is_left_out.ensures.1;
    }

pub returns : goal.returns
returns c =
    let values = c.args.values.now in
    let P : Card → Type 0 = λ card. TouchesValue c.args.layout.now c.args.player values card → Contains (cards_of values) card in
    λ card at. subst P at.2 (c.loop-card.invariant at.0 (omega (arith, at.1, c.loop-card-test.false)) card)

-- Each of the values is looked at.
use Rattle.std.proofs.Common.{◌<◌, length, get_or, sym, subst, arith, below_more}
use Rattle.std.proofs.lemmas.List.{get_or_default}
use Rattle.std.proofs.lemmas.List.Elements.{Contains-get_or}
use Rattle.cards.specs.declared.suits.Suit.TheVariants.{Spades}
use Rattle.cards.specs.declared.pack.Rank.TheVariants.{Two}
use Rattle.card_values.specs.declared.values.CardValue.{CardValue}
use Rattle.dds_calls.specs.Touching.{Touch}
use Rattle.dds_calls.proofs.touching.touches_value.Goals as goal

-- what an index past the end would give
abbrev blank : CardValue
blank = record { card = record { suit = Spades; rank = Two }; tricks = 0 }

pub loop-value-preserved : goal.loop-value-preserved
loop-value-preserved c =
    let values = c.args.values.now in
    let i = c.loop-value.value-index in
    let within : i < length values = c.loop-value-test.true in
    below_more _ _ c.loop-value.invariant
    (λ d h. c.if-do_touch.ensures (subst (λ (v : CardValue). Touch c.args.layout.now c.args.player v.card c.args.card) (get_or_default values i d blank within) h))

pub returns-then-do_touch : goal.returns-then-do_touch
returns-then-do_touch c =
    let values = c.args.values.now in
    record {
      value = get_or values c.loop-value.value-index blank;
      listed = Contains-get_or values c.loop-value.value-index blank c.loop-value-test.true;
      touch = c.if-do_touch.ensures;
    }

pub returns : goal.returns
returns c =
    λ touches. c.loop-value.invariant touches.listed.0 (omega (arith, touches.listed.1, c.loop-value-test.false)) touches.value
    (subst (λ (v : CardValue). Touch c.args.layout.now c.args.player v.card c.args.card) (sym touches.listed.2) touches.touch)

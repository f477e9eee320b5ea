-- Each other card is looked at.
use Rattle.std.proofs.Common.{◌<◌, length, get_or, sym, subst, arith, below_more}
use Rattle.std.proofs.lemmas.List.{get_or_default}
use Rattle.std.proofs.lemmas.List.Elements.{Contains-get_or}
use Rattle.cards.specs.declared.suits.Suit.TheVariants.{Spades}
use Rattle.cards.specs.declared.pack.Rank.TheVariants.{Two}
use Rattle.card_values.specs.declared.values.CardValue.{CardValue}
use Rattle.dds_calls.specs.Lines.{Joins}
use Rattle.dds_calls.proofs.lines.is_top.Goals as goal

-- what an index past the end would give
abbrev blank : CardValue
blank = record { card = record { suit = Spades; rank = Two }; tricks = 0 }

pub loop-other-preserved : goal.loop-other-preserved
loop-other-preserved c =
    let values = c.args.values.now in
    let i = c.loop-other.other-index in
    let within : i < length values = c.loop-other-test.true in
    below_more _ _ c.loop-other.invariant
    (λ d h. c.if-joins.ensures (subst (λ (v : CardValue). Joins c.args.layout.now c.args.player v c.args.value) (get_or_default values i d blank within) h))

pub returns-then-joins : goal.returns-then-joins
returns-then-joins c =
    let values = c.args.values.now in
    (get_or values c.loop-other.other-index blank, Contains-get_or values c.loop-other.other-index blank c.loop-other-test.true, c.if-joins.ensures)

pub returns : goal.returns
returns c =
    λ other at joins. c.loop-other.invariant at.0 (omega (arith, at.1, c.loop-other-test.false)) other
    (subst (λ (v : CardValue). Joins c.args.layout.now c.args.player v c.args.value) (sym at.2) joins)

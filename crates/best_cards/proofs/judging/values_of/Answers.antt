use Rattle.std.proofs.Common.{List, ◌∙◌, refl, sym, ap, subst, arith}
use Rattle.std.specs.Option.{option_copied}
use Rattle.std.proofs.lemmas.List.{length-take-le, take_all}
use Rattle.std.proofs.lemmas.List.Elements.{Contains-get_or}
use Rattle.cards.specs.declared.pack.Card.{Card}
use Rattle.cards.specs.declared.pack.Rank.TheVariants.{Two}
use Rattle.cards.specs.declared.suits.Suit.TheVariants.{Spades}
use Rattle.play_rules.specs.Position.{AreLegalCards}
use Rattle.best_cards.proofs.ReachLaws.{SoFar, next_claimed, next_unclaimed, all_reached}
use Rattle.best_cards.proofs.judging.values_of.Goals as goal

pub push-requires : goal.push-requires
push-requires c = (
  omega arith,
  omega (
    arith,
    c.loop-card.invariant.few,
    length-take-le c.loop-card.card-index c.as_slice-card-items.result.now (omega (arith, c.loop-card-test.true)),
    c.loop-card-test.true,
    c.as_slice-card-items.ensures.fits,
  ),
)

pub loop-card-preserved-in_default : goal.loop-card-preserved-in_default
loop-card-preserved-in_default c =
    let default : Card = record { suit = Spades; rank = Two } in
    next_unclaimed c.args.trick.now c.args.graphs.now c.args.claims.now c.args.tricks c.as_slice-card-items.result.now c.loop-card.card-index default c.loop-card.values.items c.loop-card-test.true c.loop-card.invariant (sym c.in_default.ensures)

pub returns-in-Err : goal.returns-in-Err
returns-in-Err c =
    let legal = subst (AreLegalCards c.args.trick.now) (sym c.as_slice-card-items.ensures.value) c.legal-cards.ensures in (
      c.in-Some.claim.now,
      legal.legal _ (Contains-get_or c.as_slice-card-items.result.now c.loop-card.card-index _ c.loop-card-test.true),
      sym c.claim_for.ensures ∙ ap option_copied c.in-Some.is,
      c.in-Err.ensures,
    )

pub loop-card-preserved : goal.loop-card-preserved
loop-card-preserved c =
    let default : Card = record { suit = Spades; rank = Two } in
    let legal = subst (AreLegalCards c.args.trick.now) (sym c.as_slice-card-items.ensures.value) c.legal-cards.ensures in
    next_claimed c.args.trick.now c.args.graphs.now c.args.claims.now c.args.tricks c.as_slice-card-items.result.now c.loop-card.card-index default c.loop-card.values.items c.push.new.self.items legal.in_order c.loop-card-test.true c.loop-card.invariant
    (record {
      can = legal.legal _ (Contains-get_or c.as_slice-card-items.result.now c.loop-card.card-index default c.loop-card-test.true);
      claim = c.in-Some.claim.now;
      first = sym c.claim_for.ensures ∙ ap option_copied c.in-Some.is;
      tricks_are = refl;
      player_wins = c.in-Ok.ensures;
    }) c.push.ensures.items

pub returns : goal.returns
returns c =
    let legal = subst (AreLegalCards c.args.trick.now) (sym c.as_slice-card-items.ensures.value) c.legal-cards.ensures in
    all_reached c.args.trick.now c.args.graphs.now c.args.claims.now c.args.tricks c.as_slice-card-items.result.now c.loop-card.values.items legal
    (subst (λ (l : List Card). SoFar c.args.trick.now c.args.graphs.now c.args.claims.now c.args.tricks l c.loop-card.values.items) (take_all c.loop-card.card-index c.as_slice-card-items.result.now (omega (arith, c.loop-card-test.false))) c.loop-card.invariant)

use Rattle.std.proofs.Common.{All, sym, subst, arith}
use Rattle.std.proofs.lemmas.List.Elements.{All-push}
use Rattle.play_rules.specs.Position.{AreLegalCards}
use Rattle.card_values.specs.declared.values.CardValue.{CardValue}
use Rattle.card_values.specs.CardValues.{IsCardValue}
use Rattle.card_values.specs.Judging.{IsClaimed}
use Rattle.card_values.proofs.ListLaws.{is_listed, as_many_values, one_more_value}
use Rattle.card_values.proofs.judging.judge_cards.Goals as goal

pub check_card-requires : goal.check_card-requires
check_card-requires c =
    let legal = subst (AreLegalCards c.args.trick) (sym c.as_slice-card-items.ensures.value) c.legal-cards.ensures in
    legal.legal _ (is_listed c.as_slice-card-items.result.now c.loop-card.card-index _ c.loop-card-test.true)

pub push-requires : goal.push-requires
push-requires c = (
  omega arith,
  omega (arith, as_many_values c.loop-card.values.items c.as_slice-card-items.result.now c.loop-card.card-index c.loop-card.invariant.cards (omega (arith, c.loop-card-test.true)), c.loop-card-test.true, c.as_slice-card-items.ensures.fits),
)

pub loop-card-preserved : goal.loop-card-preserved
loop-card-preserved c =
    let claimed = IsClaimed c.args.trick c.args.graphs.now c.args.claims.now in
    let valued : CardValue → Type 0 = λ value. IsCardValue c.args.trick.opening c.args.trick.history value.card value.tricks in
    record {
      cards = one_more_value c.loop-card.values.items c.push.new.self.items c.in-Ok.value c.as_slice-card-items.result.now c.loop-card.card-index _ c.loop-card-test.true c.loop-card.invariant.cards c.in-Ok.ensures.card_is c.push.ensures.items;
      claimed = subst (All claimed) (sym c.push.ensures.items) (All-push claimed c.loop-card.values.items c.in-Ok.value c.loop-card.invariant.claimed c.in-Ok.ensures.claimed);
      each = subst (All valued) (sym c.push.ensures.items) (All-push valued c.loop-card.values.items c.in-Ok.value c.loop-card.invariant.each c.in-Ok.ensures.value_is);
    }

-- What a card loses.
use Rattle.std.proofs.Common.{◌≡◌, ℕ, ◌+◌, ◌-◌, ◌<◌, List, length, get_or, take, Option, Some, ◌∙◌, subst, arith}
use Rattle.std.proofs.Math.ListN.{get_or-map}
use Rattle.std.proofs.lemmas.List.{take_more}
use Rattle.std.specs.Prelude.{IfSome}
use Rattle.cards.specs.declared.pack.Card.{Card}
use Rattle.cards.specs.Pack.{card_at}
use Rattle.play_rules.specs.Position.{IsReached}
use Rattle.play_values.specs.PlayValues.{IsPlayValue, IsValueAt}
use Rattle.play_values.proofs.LegalLaws.{next_is_legal}
use Rattle.play_values.proofs.ValueLaws.{cannot_gain}
use Rattle.certified_plays.specs.declared.faults.ValueFault.TheVariants.{ClaimMissing}
use Rattle.certified_plays.specs.declared.faults.PlayEntry.TheVariants.{Unknown}
use Rattle.certified_plays.specs.Values.{ShownPlay, AreShownValues, known_in, value_at, IsLossAt}

-- a value that is known
value_is : (shown : ShownPlay) (count tricks : ℕ) → AreShownValues shown.play shown.entries → value_at shown count ≡ Some tricks → IsValueAt shown.play count tricks
value_is shown count tricks are known =
    subst (λ (value : Option ℕ). IfSome value (IsValueAt shown.play count)) (get_or-map known_in shown.entries count (Unknown ClaimMissing) ∙ known) (are.each count)

pub loss_is : (shown : ShownPlay) (place before after lost : ℕ) → AreShownValues shown.play shown.entries → IsReached shown.play.position → place < length shown.play.position.history → value_at shown place ≡ Some before → value_at shown (place + 1) ≡ Some after →
    lost ≡ (before - after) + (after - before) → IsLossAt shown place lost
loss_is shown place before after lost are reached h was is lost_is =
    let history = shown.play.position.history in
    let opening = shown.play.position.opening in
    let card : Card = get_or history place (card_at 0) in
    let later = subst (λ (cards : List Card). IsPlayValue opening shown.play.declarers cards after) (take_more history place (card_at 0) h) (value_is shown (place + 1) after are is) in
    let gain = cannot_gain opening shown.play.declarers (take place history) card before after reached.layout (next_is_legal opening history place (card_at 0) reached.legal h) (value_is shown place before are was) later in
    record {
      before = before;
      after = after;
      before_is = was;
      after_is = is;
      loss = record {
        by_declarers = λ turn. omega (arith, gain.0 turn, lost_is);
        by_defenders = λ turn. omega (arith, gain.1 turn, lost_is);
      };
    }

-- What a line of the page of recorded plays says that its card loses.
use Rattle.std.proofs.Common.{◌≡◌, ℕ, ◌+◌, ◌-◌, ◌<◌, List, length, get_or, take, Option, None, Some, subst, refl, arith}
use Rattle.std.proofs.lemmas.List.{take_more}
use Rattle.std.specs.Prelude.{IfSome}
use Rattle.cards.specs.declared.pack.Card.{Card}
use Rattle.cards.specs.Seats.{side_of}
use Rattle.cards.specs.Deal.{IsLayout}
use Rattle.play_values.specs.PlayValues.{IsPlayValue, IsValueAt}
use Rattle.play_values.proofs.LegalLaws.{next_is_legal}
use Rattle.play_values.proofs.ValueLaws.{cannot_gain}
use Rattle.recorded_plays.specs.declared.plays.RecordedPlay.{RecordedPlay}
use Rattle.recorded_plays.specs.Follow.{opening_of}
use Rattle.play_pages.specs.Lines.{Numbers, recorded_of, change, IsLegalPlay}
use Rattle.play_pages.specs.Answers.{AreTrue}
use Rattle.value_laws.specs.LossLaws.{LosesAt, LinesSayLosses}

same_some : (one other : ℕ) → Some one ≡ Some other → one ≡ other
same_some one other is = cc

unknown : (lost : ℕ) → None ≡ Some lost → ⊥
unknown lost e = cc

module _ (play : RecordedPlay) (numbers : Numbers) (place lost : ℕ) (card : Card) (layout : IsLayout (opening_of play).deal)
    (legal : IsLegalPlay play) (are : AreTrue play numbers) (h : place < length play.cards.items) where
  at : (count tricks : ℕ) → numbers count ≡ Some tricks → IsValueAt (recorded_of play) count tricks
  at count tricks known = subst (λ (value : Option ℕ). IfSome value (IsValueAt (recorded_of play) count)) known (are count)

  loses : (before after : ℕ) → numbers place ≡ Some before → numbers (place + 1) ≡ Some after →
      (before - after) + (after - before) ≡ lost → LosesAt play numbers place lost
  loses before after was is lost_is =
      let next : Card = get_or play.cards.items place card in
      let later = subst (λ (cards : List Card). IsPlayValue (opening_of play) (side_of play.declarer) cards after) (take_more play.cards.items place card h) (at (place + 1) after is) in
      let gain = cannot_gain (opening_of play) (side_of play.declarer) (take place play.cards.items) next before after layout (next_is_legal (opening_of play) play.cards.items place card legal h) (at place before was) later in
      record {
        before = before;
        after = after;
        before_is = was;
        after_is = is;
        loss = record {
          by_declarers = λ turn. omega (arith, gain.0 turn, lost_is);
          by_defenders = λ turn. omega (arith, gain.1 turn, lost_is);
        };
      }

  by_numbers : (before after : Option ℕ) → numbers place ≡ before → numbers (place + 1) ≡ after → change before after ≡ Some lost →
      LosesAt play numbers place lost
  by_numbers None after was is said = absurd (unknown lost said)
  by_numbers (Some before) None was is said = absurd (unknown lost said)
  by_numbers (Some before) (Some after) was is said = loses before after was is (same_some ((before - after) + (after - before)) lost said)

pub lines_say_losses : LinesSayLosses
lines_say_losses play numbers place lost card layout legal are h said =
    by_numbers play numbers place lost card layout legal are h (numbers place) (numbers (place + 1)) refl refl said

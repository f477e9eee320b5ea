use Rattle.std.proofs.Common.{◌≡◌, List, length, sym, ap, ◌∙◌, arith}
use Rattle.pattern_step.specs.declared.pat_cards.PatCard.{PatCard}
use Rattle.checker.specs.TrickWords.{cards_in}
use Rattle.checker.proofs.TrickWordLaws.{length-cards_in, four_cards}
use Rattle.checker.proofs.played.Played.whole.Goals as goal

pub returns-then-self-ne4 : goal.returns-then-self-ne4
returns-then-self-ne4 c = λ four.
    let counted = sym (length-cards_in c.self.inside.count c.self.inside.word) ∙ ap (λ (l : List PatCard). length l) c.self.view_is in
    absurd (omega (arith, four, counted, c.if-self-ne4.true))

pub returns : goal.returns
returns c =
    let word = c.self.inside.word in
    let counted = sym (length-cards_in c.self.inside.count word) ∙ ap (λ (l : List PatCard). length l) c.self.view_is in
    let four : c.self.inside.count ≡ 4 = omega (arith, c.if-self-ne4.false) in
    let cards = four_cards word _ _ _ _ _ _ _ c.card_at.ensures c.card_at-2.ensures c.card_at-3.ensures c.card_at-4.ensures
    (omega arith) (omega arith) (omega arith) in
    (cards ∙ ap (λ n. cards_in n word) (sym four) ∙ c.self.view_is, sym counted ∙ four)

use Rattle.std.proofs.Common.{◌≡◌, ℕ, ◌+◌, ◌*◌, ◌%◌, ◌^◌, ◌<◌, ◌≤◌, List, [], ◌∷◌, ◌++◌, length, ap, ◌∙◌, arith}
use Rattle.pattern_step.specs.declared.pat_cards.PatCard.{PatCard}
use Rattle.checker.specs.TrickWords.{card_at, cards_in}
use Rattle.checker.proofs.TrickWordLaws.{Added, added, one_more, length-cards_in}
use Rattle.checker.proofs.played.Played.with.Goals as goal

pub overflow_add-result : goal.overflow_add-result
overflow_add-result c =
    let count = c.self.inside.count in
    let word = c.self.inside.word in
    let few : count < 4 = omega (arith, c.requires, length-cards_in count word, ap (λ (l : List PatCard). length l) c.self.view_is) in
    let sum = added count word c.code_of.result few c.code_of.ensures.below c.self.invariant.1 in
    omega (arith, sum.exact, sum.fits)

pub invariant_of-result : goal.invariant_of-result
invariant_of-result c =
    let count = c.self.inside.count in
    let word = c.self.inside.word in
    let few : count < 4 = omega (arith, c.requires, length-cards_in count word, ap (λ (l : List PatCard). length l) c.self.view_is) in
    let sum = added count word c.code_of.result few c.code_of.ensures.below c.self.invariant.1 in
    (omega (arith, few), omega (arith, sum.exact, sum.below))

pub returns : goal.returns
returns c =
    let count = c.self.inside.count in
    let word = c.self.inside.word in
    let code = c.code_of.result in
    let few : count < 4 = omega (arith, c.requires, length-cards_in count word, ap (λ (l : List PatCard). length l) c.self.view_is) in
    let sum = added count word code few c.code_of.ensures.below c.self.invariant.1 in
    ap (λ n. cards_in (count + 1) (word + n)) sum.exact
    ∙ (one_more count word code c.self.invariant.1
    ∙ (ap (λ card. cards_in count word ++ card ∷ []) c.code_of.ensures.back
    ∙ ap (λ (l : List PatCard). l ++ c.args.card ∷ []) c.self.view_is))

use Rattle.std.proofs.Common.{◌+◌, ◌≤◌, ◌++◌, ◌∙◌, length, replicate, ap, arith, subst, sym}
use Rattle.patterns.specs.Shapes.{SuitShape}
use Rattle.patterns.proofs.MoreOwners.{lengthened}
use Rattle.patterns.proofs.suit_words.SuitWord.with_owners.Goals as goal

pub overflow_mul-result : goal.overflow_mul-result
overflow_mul-result c =
    let within = subst (λ (s : SuitShape). length s.owners + c.args.count ≤ 13) (sym c.self.view_is) c.requires in
    omega (arith, (lengthened c.self.inside.word c.args.count c.nibble.result c.number.result c.args.seat c.self.invariant c.nibble.ensures.value c.number.ensures.place within).product)

pub overflow_add-result-2 : goal.overflow_add-result-2
overflow_add-result-2 c =
    let within = subst (λ (s : SuitShape). length s.owners + c.args.count ≤ 13) (sym c.self.view_is) c.requires in
    omega (arith, (lengthened c.self.inside.word c.args.count c.nibble.result c.number.result c.args.seat c.self.invariant c.nibble.ensures.value c.number.ensures.place within).sum)

pub invariant_of-result : goal.invariant_of-result
invariant_of-result c =
    let within = subst (λ (s : SuitShape). length s.owners + c.args.count ≤ 13) (sym c.self.view_is) c.requires in
    (lengthened c.self.inside.word c.args.count c.nibble.result c.number.result c.args.seat c.self.invariant c.nibble.ensures.value c.number.ensures.place within).is_word

pub returns-clause-lens : goal.returns-clause-lens
returns-clause-lens c =
    let within = subst (λ (s : SuitShape). length s.owners + c.args.count ≤ 13) (sym c.self.view_is) c.requires in
    (lengthened c.self.inside.word c.args.count c.nibble.result c.number.result c.args.seat c.self.invariant c.nibble.ensures.value c.number.ensures.place within).lens ∙ ap (λ (s : SuitShape). s.lens) c.self.view_is

pub returns-clause-owners : goal.returns-clause-owners
returns-clause-owners c =
    let within = subst (λ (s : SuitShape). length s.owners + c.args.count ≤ 13) (sym c.self.view_is) c.requires in
    (lengthened c.self.inside.word c.args.count c.nibble.result c.number.result c.args.seat c.self.invariant c.nibble.ensures.value c.number.ensures.place within).owners ∙ ap (λ (s : SuitShape). s.owners ++ replicate c.args.count c.args.seat) c.self.view_is

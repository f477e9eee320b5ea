use Rattle.std.proofs.Common.{List, inl, inr, refl, sym, subst}
use Rattle.pattern_step.specs.declared.pat_cards.PatCard.{PatCard}
use Rattle.patterns.proofs.SeatLaws.{not_told}
use Rattle.checker.specs.Steps.{ListsWinners}
use Rattle.checker.proofs.Lines.{four_are_legal}
use Rattle.checker.proofs.WalkLaws.{children_told}
use Rattle.checker.proofs.ends.check_leaf.Goals as goal

pub returns-then-not-lists_winners : goal.returns-then-not-lists_winners
returns-then-not-lists_winners c =
    let wrong = not_told c.lists_winners.ensures c.if-not-lists_winners.true in
    inr (
      λ short. short c.in-Some.ensures.1,
      inl (λ lists. wrong (subst (λ (l : List PatCard). ListsWinners c.args.graph.now c.args.node.now l c.args.children.now) (sym c.in-Some.ensures.0) lists), refl),
    )

pub check_children-requires-clause-legal : goal.check_children-requires-clause-legal
check_children-requires-clause-legal c = rw c.in-Some.ensures.0 (four_are_legal c.args.node.now c.args.played.now c.in-Some.ensures.1 c.requires.begun)

pub returns : goal.returns
returns c =
    children_told c.args.graph.now c.args.node.now c.args.played.now c.in-Some.trick c.args.children.now c.check_children.result
    c.in-Some.ensures.0 c.in-Some.ensures.1 (c.lists_winners.ensures.0 c.if-not-lists_winners.false) c.check_children.ensures

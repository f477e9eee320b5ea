use Rattle.patterns.proofs.CompletionLaws.{IsShape-completed}
use Rattle.patterns.proofs.rests.Rest.completed.Goals as goal

pub invariant_of-result : goal.invariant_of-result
invariant_of-result c =
    let shape = c.args.self.now in
    rw (c.of_suits.ensures, c.completed_suit.ensures, c.completed_suit-2.ensures, c.completed_suit-3.ensures, c.completed_suit-4.ensures)
    (IsShape-completed 0 12 shape c.invariant.ensures)

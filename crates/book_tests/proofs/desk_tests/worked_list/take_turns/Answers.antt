use Rattle.book_tests.proofs.Chairs.{one_changes, in_any_order}
use Rattle.book_tests.proofs.desk_tests.worked_list.take_turns.Goals as goal

pub loop-turn-preserved : goal.loop-turn-preserved
loop-turn-preserved g c =
    let told = c.ask-told.ensures in
    one_changes _ _ _ _ c.index-chairs-seat.result told.chair told.number c.loop-turn.invariant

pub returns : goal.returns
returns g c = in_any_order _ _ _ c.reverse.ensures.permutation c.loop-turn.invariant

use Rattle.best_cards.proofs.judging.check_held.Goals as goal

pub returns-in-Err : goal.returns-in-Err
returns-in-Err c =
    rw (c.graph_in.ensures, c.as_ref.ensures.value, c.layout-2.ensures, c.leader.ensures, c.trump.ensures, c.played.ensures.played, c.other-side.ensures, c.side.ensures, c.turn.ensures, c.len-size.ensures.size, c.layout.ensures) at c.in-Err.ensures

use Rattle.best_cards.proofs.judging.check_reached.Goals as goal

pub returns : goal.returns
returns c =
    rw (c.graph_in.ensures, c.as_ref.ensures.value, c.as_slice.ensures.value, c.with_card-cards.ensures, c.played.ensures.played, c.layout.ensures, c.leader.ensures, c.trump.ensures, c.side-side.ensures, c.turn.ensures) at c.check_after.ensures

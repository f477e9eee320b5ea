use Rattle.std.proofs.Common.{refl}
use Rattle.card_values.proofs.judging.check_claim.Goals as goal

pub returns-in-Err : goal.returns-in-Err
returns-in-Err c = (
  refl,
  rw (c.graph_in.ensures, c.as_ref.ensures.value, c.as_slice.ensures.value, c.with_card-cards.ensures, c.played.ensures.played, c.layout-2.ensures, c.leader.ensures, c.trump.ensures, c.side-side.ensures, c.turn.ensures) at c.in-Err.ensures,
)

pub returns-in-Err-check_after : goal.returns-in-Err-check_after
returns-in-Err-check_after c = (
  refl,
  rw (c.graph_in-2.ensures, c.as_ref-2.ensures.value, c.as_slice.ensures.value, c.with_card-cards.ensures, c.played.ensures.played, c.layout-2.ensures, c.leader.ensures, c.trump.ensures, c.other.ensures, c.other-2.ensures, c.side-side.ensures, c.turn.ensures, c.len-size.ensures.size, c.layout.ensures) at c.in-Err-check_after.ensures,
)

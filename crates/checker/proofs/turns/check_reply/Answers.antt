use Rattle.std.proofs.Common.{Contains, inl, inr, refl, subst}
use Rattle.cards.specs.declared.seats.Seat.{Seat}
use Rattle.pattern_step.specs.declared.pat_cards.PatCard.{PatCard}
use Rattle.checker.specs.Steps.{MayComeNext, IsAnswered}
use Rattle.checker.proofs.turns.check_reply.Goals as goal

pub returns-then-not-are_legal : goal.returns-then-not-are_legal
returns-then-not-are_legal c =
    let turn = c.is_opponents_turn.ensures.0 c.if-not-is_opponents_turn.false in
    let legal : (card : PatCard) → MayComeNext c.args.node.now c.args.played.now card → Contains c.as_slice.result.now card =
    λ card may. rw c.as_slice.ensures.value ((c.legal-cards.ensures.all card).1 (rw (c.player_after-seat.ensures, c.led-led.ensures) may)) in
    inr (
      λ wrong. wrong turn,
      inr (
        λ (card, may, lacks). lacks (subst (λ (s : Seat). IsAnswered c.args.version c.args.node.now.pattern s c.args.branches.now card) c.player_after-seat.ensures (c.if-not-are_answered.ensures card (legal card may))),
        inl (c.if-not-are_legal.ensures, refl),
      ),
    )

pub returns-then-answer_by_sets : goal.returns-then-answer_by_sets
returns-then-answer_by_sets c = (
  c.is_opponents_turn.ensures.0 c.if-not-is_opponents_turn.false,
  record {
    each = (rw (c.player_after-seat.ensures, c.led-led.ensures) at c.if-answer_by_sets.ensures.each);
    legal = (rw (c.player_after-seat.ensures, c.led-led.ensures) at c.if-answer_by_sets.ensures.legal);
  },
)

use Rattle.std.proofs.Common.{List, subst}
use Rattle.patterns.proofs.SeatLaws.{not_told}
use Rattle.pattern_step.specs.declared.pat_cards.PatCard.{PatCard}
use Rattle.checker.proofs.SeatTests.{seats_agree}
use Rattle.checker.specs.Begun.{IsRightBegun, IsBegunFault}
use Rattle.card_values.proofs.after_claims.check_root.Goals as goal

pub returns-then-not-matches : goal.returns-then-not-matches
returns-then-not-matches c = not_told c.matches.ensures c.if-not-matches.true

pub returns-in-Ok : goal.returns-in-Ok
returns-in-Ok c = record {
  form = c.admits.ensures.0 c.if-not-admits.false;
  lead = seats_agree c.args.node.now.lead c.args.claim.now.leader c.ne.result c.ne.ensures c.if-ne.false;
  need_is = c.if-node-claim.false;
  pattern = c.matches.ensures.0 c.if-not-matches.false;
  right = (c.path_of-path.result.items, c.path_of-path.ensures, subst (IsRightBegun c.args.graph.now c.args.node.now) c.as_slice.ensures.value c.in-Ok.ensures);
}

pub returns-in-Err : goal.returns-in-Err
returns-in-Err c = (
  c.path_of-path.result.items,
  c.path_of-path.ensures,
  subst (λ (path : List PatCard). IsBegunFault c.args.graph.now c.args.node.now path c.in-Err.fault) c.as_slice.ensures.value c.in-Err.ensures,
)

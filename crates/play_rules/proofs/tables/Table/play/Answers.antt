use Rattle.std.proofs.Common.{rules, subst}
use Rattle.play_rules.specs.Position.{Position}
use Rattle.play_rules.specs.Legal.{CanPlay}
use Rattle.play_rules.proofs.PositionLaws.{held-from_still_held, FailsToFollow-from_Revokes, CanPlay-from_tests}
use Rattle.play_rules.proofs.tables.Table.play.Goals as goal

pub returns-then-not-is_held-clause-cases : goal.returns-then-not-is_held-clause-cases
returns-then-not-is_held-clause-cases c = (c.if-is_over.ensures, λ h. c.if-not-is_held.ensures (held-from_still_held _ _ c.args.card c.self.invariant (rw (← c.self.view_is) at h)))

pub returns-then-revokes-clause-cases : goal.returns-then-revokes-clause-cases
returns-then-revokes-clause-cases c = (c.if-is_over.ensures, rw c.self.view_is at (FailsToFollow-from_Revokes _ _ c.args.card c.self.invariant c.if-not-is_held.ensures (rw c.as_slice.ensures.value at c.if-revokes.ensures)))

pub push-requires-clause-legal : goal.push-requires-clause-legal
push-requires-clause-legal c = subst (λ (p : Position). CanPlay p.opening p.history c.args.card) c.self.view_is (CanPlay-from_tests _ _ c.args.card c.self.invariant c.if-not-is_held.ensures (rw c.as_slice.ensures.value at c.if-revokes.ensures))

pub returns-clause-cases : goal.returns-clause-cases
returns-clause-cases c = (c.if-is_over.ensures, subst (λ (p : Position). CanPlay p.opening p.history c.args.card) c.self.view_is (CanPlay-from_tests _ _ c.args.card c.self.invariant c.if-not-is_held.ensures (rw c.as_slice.ensures.value at c.if-revokes.ensures)))

pub returns-then-is_over-clause-cases : goal.returns-then-is_over-clause-cases
returns-then-is_over-clause-cases c = search rules

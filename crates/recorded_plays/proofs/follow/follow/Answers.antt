use Rattle.std.proofs.Common.{◌∙◌, ap}
use Rattle.play_rules.specs.History.{Opening}
use Rattle.cards.specs.declared.seats.Seat.{Seat}
use Rattle.recorded_plays.proofs.Walks.{begins, goes_on, nearer, ends_so}
use Rattle.recorded_plays.proofs.follow.follow.Goals as goal

pub loop-end-init : goal.loop-end-init
loop-end-init c =
    let opened = ap (λ (s : Seat). let o : Opening = record { deal = c.args.deal; leader = s; trump = c.args.trump } in o) c.next.ensures in
    begins c.args.section.now.first c.args.section.now.slots.now c.args.deal c.args.declarer c.args.trump c.new-walk.result c.new-walk.ensures.walk (c.new-walk.ensures.opening ∙ opened) c.new-walk.ensures.cards

pub loop-end-smaller : goal.loop-end-smaller
loop-end-smaller c = nearer c.args.section.now.first c.args.section.now.slots.now c.loop-end.walk c.step.new.self c.in_default.ensures

pub loop-end-preserved : goal.loop-end-preserved
loop-end-preserved c =
    goes_on c.args.section.now.first c.args.section.now.slots.now c.args.deal c.args.declarer c.args.trump c.loop-end.walk c.step.new.self c.loop-end.invariant c.in_default.ensures

pub returns-in-Some-clause-reads : goal.returns-in-Some-clause-reads
returns-in-Some-clause-reads c = λ text slots_are irregular_is.
    ends_so c.args.section.now.first c.args.section.now.slots.now c.args.deal c.args.declarer c.args.trump c.args.section.now.is_irregular text c.in-Some.end c.loop-end.walk c.step.new.self c.loop-end.invariant c.in-Some.ensures slots_are irregular_is

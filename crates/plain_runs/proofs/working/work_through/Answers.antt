use Rattle.std.proofs.Common.{◌∙◌, refl, arith}
use Rattle.std.proofs.lemmas.List.Elements.{All-nil}
use Rattle.lease_book.specs.declared.events.Event.{Event}
use Rattle.lease_book.specs.Moments.{IsTimed}
use Rattle.plain_runs.proofs.WorkLaws.{nothing_given, one_more, terms_then, none_held_then, worked_on_then, timed_then, terms_still, still_none_held, still_worked_on, timed_still, gives_out}
use Rattle.plain_runs.proofs.working.work_through.Goals as goal
use Rattle.plain_runs.proofs.working.work_through.Goals.{in-Given+in_ok-work_on, in_default+in_ok-expire+in-Freed+in_default-1, in_default+in_ok-expire+in-Given-1}

pub loop-turn-init : goal.loop-turn-init
loop-turn-init g c =
    let timed = All-nil (λ (event : Event). IsTimed (g.C.Clock.may_tell c.args.clock.now) event.asked) in
    rw c.requires (record { terms = refl; turns = omega arith; none_held = refl; worked_on = tt; timed = timed })

pub returns-in-Freed-eq0 : goal.returns-in-Freed-eq0
returns-in-Freed-eq0 g c =
    let leased = c.in_ok-lease.ensures.ok in
    let expired = c.in_ok-expire.ensures.ok in
    let nothing = nothing_given _ _ _ _ leased.reply_is c.in_default.not-Given in
    let inv = c.loop-turn.invariant in
    let may_tell = g.C.Clock.may_tell c.args.clock.now in
    gives_out _ _ _ _ _ _ _ leased nothing expired (g.S.Solver.may_find c.args.solver.now) may_tell c.args.budget _
    inv.terms c.history-events.ensures.legal inv.none_held inv.worked_on
    (timed_still _ _ _ _ _ _ _ leased nothing expired may_tell inv.timed c.now.ensures c.now-in_default.ensures)

pub loop-turn-preserved : goal.loop-turn-preserved
loop-turn-preserved g c =
    let leased = c.in_ok-lease.ensures.ok in
    let first = one_more _ _ _ _ leased in
    let inv = c.loop-turn.invariant in
    let may_find = g.S.Solver.may_find c.args.solver.now in
    let may_tell = g.C.Clock.may_tell c.args.clock.now in
    elim c.match-branch-2.branch [
      | in-Given+in_ok-work_on w ↦
          let works = w.in_ok-work_on.ensures in
          rw w.book-is (record {
            terms = terms_then may_find c.args.budget _ _ _ _ _ _ _ _ leased w.in-Given.is works ∙ inv.terms;
            turns = omega (arith, inv.turns, first, one_more _ _ _ _ works.answered);
            none_held = none_held_then may_find c.args.budget _ _ _ _ _ _ _ _ leased w.in-Given.is works c.history-events.ensures.legal inv.none_held;
            worked_on = worked_on_then may_find c.args.budget _ _ _ _ _ _ _ _ leased w.in-Given.is works inv.worked_on;
            timed = timed_then may_find c.args.budget _ _ _ _ _ _ _ _ leased w.in-Given.is works may_tell inv.timed c.now.ensures;
          })
      | in_default+in_ok-expire+in-Freed+in_default-1 w ↦
          let expired = w.in_ok-expire.ensures.ok in
          let nothing = nothing_given _ _ _ _ leased.reply_is w.in_default.not-Given in
          rw w.book-is (record {
            terms = terms_still _ _ _ _ _ _ _ leased nothing expired ∙ inv.terms;
            turns = omega (arith, inv.turns, first, one_more _ _ _ _ expired);
            none_held = still_none_held _ _ _ _ _ _ _ leased nothing expired inv.none_held;
            worked_on = still_worked_on _ _ _ _ _ _ _ leased nothing expired may_find c.args.budget inv.worked_on;
            timed = timed_still _ _ _ _ _ _ _ leased nothing expired may_tell inv.timed c.now.ensures w.now-in_default.ensures;
          })
      | in_default+in_ok-expire+in-Given-1 w ↦
          let expired = w.in_ok-expire.ensures.ok in
          let nothing = nothing_given _ _ _ _ leased.reply_is w.in_default.not-Given in
          rw w.book-is (record {
            terms = terms_still _ _ _ _ _ _ _ leased nothing expired ∙ inv.terms;
            turns = omega (arith, inv.turns, first, one_more _ _ _ _ expired);
            none_held = still_none_held _ _ _ _ _ _ _ leased nothing expired inv.none_held;
            worked_on = still_worked_on _ _ _ _ _ _ _ leased nothing expired may_find c.args.budget inv.worked_on;
            timed = timed_still _ _ _ _ _ _ _ leased nothing expired may_tell inv.timed c.now.ensures w.now-in_default.ensures;
          })
    ]

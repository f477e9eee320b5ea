use mir.Syntax.{named}
use denote.Param.{param}
use Rattle.farm.proofs.Sharing.{crew_sync}
use Rattle.std.proofs.Common.{sym, subst, ap, ◌∙◌}
use Rattle.farm.specs.Posts.{steps_at}
use Rattle.farm.specs.declared.relays.Relays.{Relays}
use Rattle.farm.specs.Relaying.{AreAllEndsOf}
use Rattle.farm.proofs.Ending.{all_ends, have_worked}
use Rattle.farm.proofs.running.work_all.Goals as goal

pub close-requires : goal.close-requires
close-requires g c =
    let ready = c.in_ok-opened.ensures in
    let worked = c.in_ok-relays.ensures in
    subst (λ (relays : Relays). AreAllEndsOf relays c.in_ok-chairs.ends) (sym worked.relays)
    (all_ends g.C.Clock.may_tell g.S.Solver.may_find c.args.crew.now c.in_ok-opened.opened.0 c.args.chairs.items c.in_ok-chairs.chairs.items ready.ends c.in_ok-chairs.ends c.in_ok-opened.opened.1 c.in_ok-relays.lender c.in_ok-opened.opened.2 c.in_ok-relays.posts ready.opened ready.manned worked.lender worked.posts c.in_ok-chairs.ensures)

pub returns : goal.returns
returns g c =
    let ready = c.in_ok-opened.ensures in
    let worked = c.in_ok-relays.ensures in
    have_worked g.C.Clock.may_tell g.S.Solver.may_find c.args.crew.now c.in_ok-opened.opened.0 c.args.chairs.items c.in_ok-chairs.chairs.items ready.ends c.in_ok-chairs.ends c.in_ok-opened.opened.1 c.in_ok-relays.lender c.in_ok-opened.opened.2 c.in_ok-relays.posts ready.opened ready.manned worked.lender worked.posts c.in_ok-chairs.ensures
    c.steps_at-steps.result (c.steps_at-steps.ensures ∙ ap steps_at c.as_slice.ensures.value) c.in_ok-close.ensures.messages

pub work_as-requires-sync-W : goal.work_as-requires-sync-W
work_as-requires-sync-W g c κs within =
    let crew = crew_sync (record { mir = named 3; lft = κs.1.1.0 }) (param 0 g.row.S) (param 1 g.row.G) (param 2 g.row.C) (record { shared = c.type_bounds.sync-S.shared }) (record { shared = c.type_bounds.sync-G.shared }) (record { shared = c.type_bounds.sync-C.shared }) in
    record { shared = crew.shared }

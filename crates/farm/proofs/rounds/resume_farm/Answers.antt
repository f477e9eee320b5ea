use Rattle.std.proofs.Common.{◌≡◌, ◌-◌, ◌^◌, ◌≤◌, List, length, drop, ap, ap₂, ◌∙◌, subst, arith, length-append}
use Rattle.std.specs.List.{between}
use Rattle.std.proofs.lemmas.Slice.{between_to_end}
use Rattle.std.proofs.Math.Seq.{drop-append_seam}
use Rattle.lease_book.specs.declared.events.Event.{Event}
use Rattle.lease_book.specs.Settling.{given_in}
use Rattle.farm.specs.Leases.{one_each, unclaimed_with}
use Rattle.farm.specs.Searched.{deals_in}
use Rattle.farm.proofs.Searching.{searched_since}
use Rattle.farm.proofs.rounds.resume_farm.Goals as goal

pub slice_bounds-later-start : goal.slice_bounds-later-start
slice_bounds-later-start g c =
    let on = c.in_ok-book.ensures.round.on in
    let before = ap length c.history-before.ensures.events in
    let whole = ap length (c.history.ensures.events ∙ on.events_are) in
    omega (arith, length-append c.args.book.events on.later)

pub returns-clause-searched : goal.returns-clause-searched
returns-clause-searched g c =
    let goes = c.in_ok-book.ensures.round in
    let whole : List Event = c.history.result.now in
    let start = length c.history-before.result.now in
    let part : List Event = between start (length whole) whole in
    let later : part ≡ goes.on.later =
    between_to_end whole start (length whole) (omega arith)
    ∙ ap₂ (λ n l. drop n l) (ap length c.history-before.ensures.events) (c.history.ensures.events ∙ goes.on.events_are)
    ∙ drop-append_seam c.args.book.events goes.on.later in
    searched_since (g.S.Solver.may_find c.args.means.now.solver.now) (g.C.Clock.may_tell c.args.means.now.clock.now)
    c.args.settings.budget c.as_slice-3.result.now c.args.book c.in_ok-book.book c.in_ok-book.steps c.of-unclaimed.result goes
    (c.as_slice-3.ensures.value ∙ c.in_ok-deals.ensures ∙ ap deals_in c.boards.ensures)
    (subst (λ (l : List Event). given_in one_each l ≤ 2 ^ 64 - 1) later c.of-unclaimed.ensures.bound)
    (c.of-unclaimed.ensures.is ∙ ap (unclaimed_with c.in_ok-book.steps) later)

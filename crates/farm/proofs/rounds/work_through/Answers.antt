use Rattle.std.proofs.Common.{refl}
use Rattle.farm.specs.Asks.{IsAsked}
use Rattle.farm.proofs.RoundLaws.{goes_none, goes_more, finishes}
use Rattle.farm.proofs.rounds.work_through.Goals as goal

pub loop-round-init : goal.loop-round-init
loop-round-init g c = goes_none (g.C.Clock.may_tell c.args.means.now.clock.now) (IsAsked (g.S.Solver.may_find c.args.means.now.solver.now) c.args.deals.now c.args.settings.budget) c.args.book

pub returns-then-is_idle : goal.returns-then-is_idle
returns-then-is_idle g c =
    let told = g.C.Clock.may_tell c.args.means.now.clock.now in
    let asked = IsAsked (g.S.Solver.may_find c.args.means.now.solver.now) c.args.deals.now c.args.settings.budget in
    let goes = goes_more told asked c.args.book c.loop-round.book c.in_ok-worked.worked c.take_back_all.new.book c.loop-round.steps c.in_ok-worked.more c.saturating_add-steps.result c.saturating_add-steps.ensures c.loop-round.invariant c.in_ok-worked.ensures c.in_ok-take_back_all.ensures in
    finishes told asked c.args.book c.loop-round.book c.in_ok-worked.worked c.take_back_all.new.book c.loop-round.steps c.in_ok-worked.more c.saturating_add-steps.result goes c.in_ok-worked.ensures c.in_ok-take_back_all.ensures (c.if-is_idle.ensures.done refl) c.is_true_history.ensures

pub loop-round-preserved : goal.loop-round-preserved
loop-round-preserved g c =
    let told = g.C.Clock.may_tell c.args.means.now.clock.now in
    let asked = IsAsked (g.S.Solver.may_find c.args.means.now.solver.now) c.args.deals.now c.args.settings.budget in
    goes_more told asked c.args.book c.loop-round.book c.in_ok-worked.worked c.take_back_all.new.book c.loop-round.steps c.in_ok-worked.more c.saturating_add-steps.result c.saturating_add-steps.ensures c.loop-round.invariant c.in_ok-worked.ensures c.in_ok-take_back_all.ensures

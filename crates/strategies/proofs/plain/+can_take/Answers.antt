use Rattle.std.proofs.Common.{arith, sym, ◌∙◌}
use Rattle.std.proofs.lemmas.List.{take_all}
use Rattle.cards.specs.declared.seats.Side.TheVariants.{NorthSouth, EastWest}
use Rattle.strategies.proofs.SearchProofs.{won_by, over_settles, no_turn-over, turn-unfinished, settled, no_help, none_helps, IsNoHelp-more, beq-same, beq-apart, IsOwn-from_test, CanPlay-at, IsAnswer-from_after}
use Rattle.strategies.proofs.plain.+can_take.Goals as goal

pub returns-then-tricks-wanted : goal.returns-then-tricks-wanted
returns-then-tricks-wanted t c = won_by c.args.table.now NorthSouth c.args.wanted c.turn-turn.ensures.reached (omega arith)

pub returns-then-tricks-saturating_sub : goal.returns-then-tricks-saturating_sub
returns-then-tricks-saturating_sub t c = won_by c.args.table.now EastWest _ c.turn-turn.ensures.reached (omega arith)

pub unreachable-requires : goal.unreachable-requires
unreachable-requires t c =
    over_settles c.args.table.now c.args.wanted (no_turn-over c.args.table.now c.turn-turn.ensures.reached (sym c.turn-turn.ensures.turn ∙ c.in_default.is)) (omega arith) (omega arith)

pub after-requires-clause-legal : goal.after-requires-clause-legal
after-requires-clause-legal t c =
    CanPlay-at c.args.table.now c.as_slice-card-items.result.now c.loop-card.card-index _
    (rw (← c.as_slice-card-items.ensures.value) at c.legal-cards.ensures.legal) (omega arith)

pub returns-then-can_take-own : goal.returns-then-can_take-own
returns-then-can_take-own t c =
    let turn = sym c.turn-turn.ensures.turn ∙ c.in-Some.is in
    let legal = rw (← c.as_slice-card-items.ensures.value) at c.legal-cards.ensures.legal in
    let can = CanPlay-at c.args.table.now c.as_slice-card-items.result.now c.loop-card.card-index _ legal (omega arith) in
    settled c.args.table.now c.args.wanted _ c.can_take.result c.eq-own.result c.turn-turn.ensures.reached
    (turn-unfinished c.args.table.now c.in-Some.seat turn).0 can
    (IsOwn-from_test c.args.table.now c.in-Some.seat c.side.result c.eq-own.result turn c.side.ensures c.eq-own.ensures)
    (IsAnswer-from_after c.args.table.now c.after.result c.args.wanted _ c.can_take.result c.after.ensures c.can_take.ensures)
    (beq-same c.can_take.result c.eq-own.result c.if-can_take-own.true)

pub loop-card-preserved : goal.loop-card-preserved
loop-card-preserved t c =
    let turn = sym c.turn-turn.ensures.turn ∙ c.in-Some.is in
    IsNoHelp-more c.args.table.now c.args.wanted c.as_slice-card-items.result.now c.loop-card.card-index _ (omega arith) c.loop-card.invariant
    (no_help c.args.table.now c.args.wanted _ c.can_take.result c.eq-own.result
    (IsOwn-from_test c.args.table.now c.in-Some.seat c.side.result c.eq-own.result turn c.side.ensures c.eq-own.ensures)
    (IsAnswer-from_after c.args.table.now c.after.result c.args.wanted _ c.can_take.result c.after.ensures c.can_take.ensures)
    (beq-apart c.can_take.result c.eq-own.result c.if-can_take-own.false))

pub returns : goal.returns
returns t c =
    let turn = sym c.turn-turn.ensures.turn ∙ c.in-Some.is in
    let items = c.as_slice-card-items.result.now in
    let legal = rw (← c.as_slice-card-items.ensures.value) at c.legal-cards.ensures.legal in
    none_helps c.args.table.now c.args.wanted c.eq-own.result c.turn-turn.ensures.reached
    (turn-unfinished c.args.table.now c.in-Some.seat turn).0
    (IsOwn-from_test c.args.table.now c.in-Some.seat c.side.result c.eq-own.result turn c.side.ensures c.eq-own.ensures)
    (λ card can. c.loop-card.invariant card (rw (take_all c.loop-card.card-index items (omega arith)) (legal.all card can)))

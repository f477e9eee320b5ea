use Rattle.std.proofs.Common.{◌∙◌, ap, get_or, arith, rules}
use Rattle.lease_book.proofs.SlotLaws.{swept_done, swept_rest, swept_count, swept_all, counted_all}
use Rattle.lease_book.proofs.slots.Slots.free_past.Goals as goal

pub loop-place-preserved : goal.loop-place-preserved
loop-place-preserved c =
    let now = c.args.now in
    let before = c.args.self.now in
    let slots = c.loop-place.self in
    let from = c.loop-place.from in
    let place = c.in-Some.place in
    let slot = c.slot-slot.result in
    let inv = c.loop-place.invariant in
    let first = c.in-Some.ensures in
    record {
      done = λ other d l. ap (λ all. get_or all other d) c.set.ensures ∙ swept_done now before slots from place slot inv.done inv.rest first c.slot-slot.ensures other d l;
      rest = λ other d l. ap (λ all. get_or all other d) c.set.ensures ∙ swept_rest now before slots from place slot inv.done inv.rest first c.slot-slot.ensures other d l;
      counted = let one = swept_count now before slots from place slot inv.done inv.rest first c.slot-slot.ensures (omega (arith, first.within)) in omega arith;
      few = omega (arith, first.from_on);
      within = omega (arith, first.within);
      sized = search rules;
      before = inv.before;
    }

pub returns-clause-freed : goal.returns-clause-freed
returns-clause-freed c =
    let inv = c.loop-place.invariant in
    swept_all c.args.now c.args.self.now c.loop-place.self c.loop-place.from inv.done inv.rest c.in_default.ensures (omega arith)

pub returns-clause-count : goal.returns-clause-count
returns-clause-count c =
    let inv = c.loop-place.invariant in
    inv.counted ∙ counted_all c.args.now c.args.self.now c.loop-place.self c.loop-place.from inv.done inv.rest c.in_default.ensures (omega arith) (omega arith)

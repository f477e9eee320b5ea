use Rattle.std.proofs.Common.{ap, ◌∙◌, arith, rules}
use Rattle.lease_book.specs.Slots.{new_slot, tries_of}
use Rattle.lease_book.proofs.SlotLaws.{set_step, set_rest}
use Rattle.lease_book.proofs.slots.Slots.new.Goals as goal

pub loop-place-preserved : goal.loop-place-preserved
loop-place-preserved c =
    let inv = c.loop-place.invariant in
    let slot = new_slot c.tries_of-left.result in
    record {
      done = set_step c.loop-place.slots c.set.new.self c.loop-place.place slot (λ place. new_slot (tries_of c.args.boards.now c.args.tries place)) c.set.ensures (omega arith) (ap new_slot c.tries_of-left.ensures) inv.done;
      rest = λ place d h l. set_rest c.loop-place.slots c.set.new.self c.loop-place.place slot c.set.ensures place d h ∙ inv.rest place d (omega arith) l;
      sized = search rules;
      counted = inv.counted;
    }

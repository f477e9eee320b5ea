use Rattle.std.proofs.Common.{refl}
use Rattle.lease_book.specs.Slots.{is_past_slot, deadline_of}
use Rattle.lease_book.proofs.SlotLaws.{first_in_row}
use Rattle.lease_book.proofs.slots.Slots.first_past.Goals as goal

pub returns : goal.returns
returns c =
    rw (← c.self.view_is) (first_in_row (is_past_slot c.args.now) deadline_of c.args.now (λ slot. refl) c.self.inside.deadlines c.self.inside.slots.items c.self.invariant.0 c.args.from c.first_due.result c.first_due.ensures)

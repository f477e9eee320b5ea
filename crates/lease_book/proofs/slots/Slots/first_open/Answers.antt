use Rattle.lease_book.specs.Slots.{is_open_slot, opening_of}
use Rattle.lease_book.proofs.SlotLaws.{first_in_row, opening_is_due}
use Rattle.lease_book.proofs.slots.Slots.first_open.Goals as goal

pub returns : goal.returns
returns c =
    rw (← c.self.view_is) (first_in_row is_open_slot opening_of 0 opening_is_due c.self.inside.openings c.self.inside.slots.items c.self.invariant.1 0 c.first_due.result c.first_due.ensures)

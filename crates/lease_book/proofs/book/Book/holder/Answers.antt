use Rattle.std.proofs.Common.{◌<◌, length, sym, ◌∙◌, ap, arith}
use Rattle.lease_book.specs.Done.{number_of}
use Rattle.lease_book.proofs.SlotLaws.{no_slot}
use Rattle.lease_book.proofs.IdleLaws.{held_of}
use Rattle.lease_book.proofs.book.Book.holder.Goals as goal

pub returns-in-Some : goal.returns-in-Some
returns-in-Some c =
    let book = c.self.inside in
    let requires = rw (← c.self.view_is) at c.requires in
    let within : c.args.place < length book.slots = omega (arith, c.self.invariant.sized, requires) in
    rw (← c.self.view_is)
    (sym (ap number_of c.in-Some.is)
    ∙ held_of _ book.events.items book.leases.items book.slots c.self.invariant c.args.place c.slot.result within (c.slot.ensures no_slot))

pub returns-in-None : goal.returns-in-None
returns-in-None c =
    let book = c.self.inside in
    let requires = rw (← c.self.view_is) at c.requires in
    let within : c.args.place < length book.slots = omega (arith, c.self.invariant.sized, requires) in
    rw (← c.self.view_is)
    (sym (ap number_of c.in-None.is)
    ∙ held_of _ book.events.items book.leases.items book.slots c.self.invariant c.args.place c.slot.result within (c.slot.ensures no_slot))

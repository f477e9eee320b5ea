use Rattle.std.proofs.Common.{◌≡◌, ◌+◌, ◌<◌, List, [], ◌∷◌, ◌++◌, length, ◌∙◌, ap, arith}
use Rattle.lease_book.specs.declared.events.Asked.TheVariants.{Lease}
use Rattle.lease_book.specs.declared.events.Reply.TheVariants.{Nothing, Given}
use Rattle.lease_book.specs.declared.events.Grant.{Grant}
use Rattle.lease_book.specs.Entries.{place_of}
use Rattle.lease_book.proofs.SlotLaws.{no_slot}
use Rattle.lease_book.proofs.Answering.{kept_in, replied}
use Rattle.lease_book.proofs.OpenLaws.{nothing_open, kept_nothing, try_left, next_lease, kept_leased, leased_slots}
use Rattle.lease_book.proofs.book.Book.lease.Goals as goal

pub invariant_of-self-in_default : goal.invariant_of-self-in_default
invariant_of-self-in_default c =
    let book = c.self.inside in
    kept_in _ book.events.items _ _ (Lease c.args.now) Nothing book.leases.items book.slots c.add.ensures.events c.make_room.ensures.events
    (kept_nothing _ book.events.items book.leases.items book.slots c.self.invariant c.args.now c.in_default.ensures)

pub returns-in_default-clause-ok : goal.returns-in_default-clause-ok
returns-in_default-clause-ok c =
    let book = c.self.inside in
    replied _ book.events.items _ _ c.args.self.now (Lease c.args.now) Nothing c.add.result c.self.view_is c.add.ensures.events c.make_room.ensures.events c.add.ensures.reply
    (nothing_open _ book.events.items book.leases.items book.slots c.self.invariant c.in_default.ensures)

pub leased-requires : goal.leased-requires
leased-requires c =
    let book = c.self.inside in
    try_left _ book.events.items book.leases.items book.slots c.self.invariant c.in-Some.place c.slot-slot.result c.slot-slot.ensures c.in-Some.ensures

pub invariant_of-self-2 : goal.invariant_of-self-2
invariant_of-self-2 c =
    let book = c.self.inside in
    let entry = c.at-entry.result in
    let deadline = c.saturating_add-deadline.result in
    let grant : Grant = record { lease = c.len.result + 1; entry = entry; deadline = deadline } in
    let first = c.in-Some.ensures in
    let number : c.len.result + 1 ≡ length book.leases.items + 1 = omega (arith, c.len.ensures, c.reserve.ensures.len, book.leases.ok.0) in
    let next = next_lease _ book.events.items book.leases.items book.slots c.self.invariant c.args.now (c.len.result + 1) entry deadline c.in-Some.place first c.at-entry.ensures number c.saturating_add-deadline.ensures in
    let within : place_of entry < length book.slots = omega (arith, first.within, c.at-entry.ensures) in
    let slots = leased_slots book.slots c.set.new.self c.in-Some.place entry grant c.slot-slot.result c.leased.result c.set.ensures c.leased.ensures (c.slot-slot.ensures no_slot) c.at-entry.ensures in
    let leases = c.push_reserved.ensures.items ∙ ap (λ (gs : List Grant). gs ++ grant ∷ []) c.reserve.ensures.items in
    rw (slots, leases)
    (kept_in _ book.events.items _ _ (Lease c.args.now) (Given (c.len.result + 1) entry deadline) _ _ c.add-2.ensures.events c.make_room.ensures.events
    (kept_leased _ book.events.items book.leases.items book.slots c.self.invariant c.args.now (c.len.result + 1) entry deadline next within no_slot number))

pub returns-clause-ok : goal.returns-clause-ok
returns-clause-ok c =
    let book = c.self.inside in
    let entry = c.at-entry.result in
    let deadline = c.saturating_add-deadline.result in
    let number : c.len.result + 1 ≡ length book.leases.items + 1 = omega (arith, c.len.ensures, c.reserve.ensures.len, book.leases.ok.0) in
    replied _ book.events.items _ _ c.args.self.now (Lease c.args.now) (Given (c.len.result + 1) entry deadline) c.add-2.result c.self.view_is c.add-2.ensures.events c.make_room.ensures.events c.add-2.ensures.reply
    (next_lease _ book.events.items book.leases.items book.slots c.self.invariant c.args.now (c.len.result + 1) entry deadline c.in-Some.place c.in-Some.ensures c.at-entry.ensures number c.saturating_add-deadline.ensures)

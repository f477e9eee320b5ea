use Rattle.std.proofs.Common.{sym, ◌∙◌, ap}
use Rattle.std.specs.List.{find}
use Rattle.lease_book.specs.declared.events.Asked.TheVariants.{GiveUp}
use Rattle.lease_book.specs.declared.events.Reply.TheVariants.{UnknownLease}
use Rattle.lease_book.specs.Histories.{is_numbered}
use Rattle.lease_book.proofs.SlotLaws.{no_slot}
use Rattle.lease_book.proofs.EntryLaws.{own_place, small_board}
use Rattle.lease_book.proofs.Answering.{kept_in, replied}
use Rattle.lease_book.proofs.ReleaseLaws.{own_reply, kept_unknown, kept_given_up}
use Rattle.lease_book.proofs.book.Book.give_up.Goals as goal

pub invariant_of-self-in_default : goal.invariant_of-self-in_default
invariant_of-self-in_default c =
    let book = c.self.inside in
    let none = sym (ap (find (is_numbered c.args.lease)) c.as_slice.ensures.value) ∙ sym c.given.ensures ∙ c.in_default.is in
    kept_in _ book.events.items _ _ (GiveUp c.args.lease) UnknownLease book.leases.items book.slots c.add.ensures.events c.make_room.ensures.events
    (kept_unknown _ book.events.items book.leases.items book.slots c.self.invariant c.args.lease none)

pub place-place-requires : goal.place-place-requires
place-place-requires c =
    let book = c.self.inside in
    let given = sym (ap (find (is_numbered c.args.lease)) c.as_slice.ensures.value) ∙ sym c.given.ensures ∙ c.in-Some.is in
    small_board _ book.events.items book.leases.items book.slots c.self.invariant c.in-Some.grant.entry (own_place _ book.events.items book.leases.items book.slots c.self.invariant c.args.lease c.in-Some.grant given)

pub take_back-reply-requires : goal.take_back-reply-requires
take_back-reply-requires c =
    let book = c.self.inside in
    let given = sym (ap (find (is_numbered c.args.lease)) c.as_slice.ensures.value) ∙ sym c.given.ensures ∙ c.in-Some.is in
    rw c.place-place.ensures (own_place _ book.events.items book.leases.items book.slots c.self.invariant c.args.lease c.in-Some.grant given)

pub invariant_of-self-2 : goal.invariant_of-self-2
invariant_of-self-2 c =
    let book = c.self.inside in
    let given = sym (ap (find (is_numbered c.args.lease)) c.as_slice.ensures.value) ∙ sym c.given.ensures ∙ c.in-Some.is in
    let within = own_place _ book.events.items book.leases.items book.slots c.self.invariant c.args.lease c.in-Some.grant given in
    let reply = rw c.place-place.ensures at c.take_back-reply.ensures.reply no_slot in
    let slots = rw c.place-place.ensures at c.take_back-reply.ensures.slots no_slot in
    rw slots
    (kept_in _ book.events.items _ _ (GiveUp c.args.lease) c.take_back-reply.result book.leases.items _ c.add-2.ensures.events c.make_room.ensures.events
    (rw reply (kept_given_up _ book.events.items book.leases.items book.slots c.self.invariant c.args.lease no_slot c.in-Some.grant given within)))

pub returns-clause-ok : goal.returns-clause-ok
returns-clause-ok c =
    let book = c.self.inside in
    let given = sym (ap (find (is_numbered c.args.lease)) c.as_slice.ensures.value) ∙ sym c.given.ensures ∙ c.in-Some.is in
    let within = own_place _ book.events.items book.leases.items book.slots c.self.invariant c.args.lease c.in-Some.grant given in
    let reply = rw c.place-place.ensures at c.take_back-reply.ensures.reply no_slot in
    replied _ book.events.items _ _ c.args.self.now (GiveUp c.args.lease) c.take_back-reply.result c.add-2.result c.self.view_is c.add-2.ensures.events c.make_room.ensures.events c.add-2.ensures.reply
    (reply ∙ own_reply _ book.events.items book.leases.items book.slots c.self.invariant c.args.lease no_slot c.in-Some.grant given within)

use Rattle.std.proofs.Common.{◌≡◌, get_or, is_some, sym, ◌∙◌, ap, refl, arith}
use Rattle.std.specs.List.{find}
use Rattle.lease_book.specs.declared.events.Asked.TheVariants.{HandIn}
use Rattle.lease_book.specs.declared.events.Reply.TheVariants.{UnknownLease, OtherEntry, AlreadyPublished, BadCertificate, Published}
use Rattle.lease_book.specs.declared.slots.Slot.{Slot}
use Rattle.lease_book.specs.Entries.{place_of}
use Rattle.lease_book.specs.Histories.{is_numbered}
use Rattle.lease_book.specs.Replies.{is_evidence_for}
use Rattle.lease_book.proofs.SlotLaws.{no_slot}
use Rattle.lease_book.proofs.EntryLaws.{own_place, small_board}
use Rattle.lease_book.proofs.Answering.{kept_in, replied}
use Rattle.lease_book.proofs.SettleLaws.{kept_refused, unknown_hand_in, other_entry, other_evidence, published_reply, shows_reply, faulty_reply, kept_shows, kept_shows_nothing, numbered_slots}
use Rattle.lease_book.proofs.book.Book.settle.Goals as goal

pub invariant_of-self-in_default : goal.invariant_of-self-in_default
invariant_of-self-in_default c =
    let book = c.self.inside in
    let evidence = c.evidence_of-evidence.result in
    let none = sym (ap (find (is_numbered c.args.lease)) c.as_slice.ensures.value) ∙ sym c.given.ensures ∙ c.in_default.is in
    (kept_in _ book.events.items _ _ (HandIn c.args.lease c.args.entry evidence) UnknownLease book.leases.items book.slots c.add.ensures.events c.make_room.ensures.events
    (kept_refused _ book.events.items book.leases.items book.slots c.self.invariant c.args.lease c.args.entry evidence UnknownLease refl (λ grant. refl) (λ place. refl) (unknown_hand_in _ book.events.items book.leases.items book.slots c.self.invariant c.args.lease c.args.entry evidence none)))

pub returns-in_default-clause-ok : goal.returns-in_default-clause-ok
returns-in_default-clause-ok c =
    let book = c.self.inside in
    let evidence = c.evidence_of-evidence.result in
    let none = sym (ap (find (is_numbered c.args.lease)) c.as_slice.ensures.value) ∙ sym c.given.ensures ∙ c.in_default.is in
    rw (← c.evidence_of-evidence.ensures.same)
    (replied _ book.events.items _ _ c.args.self.now (HandIn c.args.lease c.args.entry evidence) UnknownLease c.add.result c.self.view_is c.add.ensures.events c.make_room.ensures.events c.add.ensures.reply
    (unknown_hand_in _ book.events.items book.leases.items book.slots c.self.invariant c.args.lease c.args.entry evidence none))

pub invariant_of-self-then-not-is_same : goal.invariant_of-self-then-not-is_same
invariant_of-self-then-not-is_same c =
    let book = c.self.inside in
    let evidence = c.evidence_of-evidence.result in
    let given = sym (ap (find (is_numbered c.args.lease)) c.as_slice.ensures.value) ∙ sym c.given.ensures ∙ c.in-Some.is in
    (kept_in _ book.events.items _ _ (HandIn c.args.lease c.args.entry evidence) OtherEntry book.leases.items book.slots c.add-then-not-is_same.ensures.events c.make_room.ensures.events
    (kept_refused _ book.events.items book.leases.items book.slots c.self.invariant c.args.lease c.args.entry evidence OtherEntry refl (λ grant. refl) (λ place. refl) (other_entry _ book.events.items book.leases.items book.slots c.self.invariant c.args.lease c.args.entry evidence c.in-Some.grant given (sym c.if-not-is_same.ensures))))

pub returns-then-not-is_same-clause-ok : goal.returns-then-not-is_same-clause-ok
returns-then-not-is_same-clause-ok c =
    let book = c.self.inside in
    let evidence = c.evidence_of-evidence.result in
    let given = sym (ap (find (is_numbered c.args.lease)) c.as_slice.ensures.value) ∙ sym c.given.ensures ∙ c.in-Some.is in
    rw (← c.evidence_of-evidence.ensures.same)
    (replied _ book.events.items _ _ c.args.self.now (HandIn c.args.lease c.args.entry evidence) OtherEntry c.add-then-not-is_same.result c.self.view_is c.add-then-not-is_same.ensures.events c.make_room.ensures.events c.add-then-not-is_same.ensures.reply
    (other_entry _ book.events.items book.leases.items book.slots c.self.invariant c.args.lease c.args.entry evidence c.in-Some.grant given (sym c.if-not-is_same.ensures)))

pub invariant_of-self-then-not-is_evidence_for : goal.invariant_of-self-then-not-is_evidence_for
invariant_of-self-then-not-is_evidence_for c =
    let book = c.self.inside in
    let evidence = c.evidence_of-evidence.result in
    let given = sym (ap (find (is_numbered c.args.lease)) c.as_slice.ensures.value) ∙ sym c.given.ensures ∙ c.in-Some.is in
    let right = ap (λ boards. is_evidence_for boards c.args.entry evidence) (sym c.as_slice-2.ensures) ∙ sym c.if-not-is_evidence_for.ensures in
    (kept_in _ book.events.items _ _ (HandIn c.args.lease c.args.entry evidence) OtherEntry book.leases.items book.slots c.add-then-not-is_evidence_for.ensures.events c.make_room.ensures.events
    (kept_refused _ book.events.items book.leases.items book.slots c.self.invariant c.args.lease c.args.entry evidence OtherEntry refl (λ grant. refl) (λ place. refl) (other_evidence _ book.events.items book.leases.items book.slots c.self.invariant c.args.lease c.args.entry evidence c.in-Some.grant given right)))

pub returns-then-not-is_evidence_for-clause-ok : goal.returns-then-not-is_evidence_for-clause-ok
returns-then-not-is_evidence_for-clause-ok c =
    let book = c.self.inside in
    let evidence = c.evidence_of-evidence.result in
    let given = sym (ap (find (is_numbered c.args.lease)) c.as_slice.ensures.value) ∙ sym c.given.ensures ∙ c.in-Some.is in
    let right = ap (λ boards. is_evidence_for boards c.args.entry evidence) (sym c.as_slice-2.ensures) ∙ sym c.if-not-is_evidence_for.ensures in
    rw (← c.evidence_of-evidence.ensures.same)
    (replied _ book.events.items _ _ c.args.self.now (HandIn c.args.lease c.args.entry evidence) OtherEntry c.add-then-not-is_evidence_for.result c.self.view_is c.add-then-not-is_evidence_for.ensures.events c.make_room.ensures.events c.add-then-not-is_evidence_for.ensures.reply
    (other_evidence _ book.events.items book.leases.items book.slots c.self.invariant c.args.lease c.args.entry evidence c.in-Some.grant given right))

pub place-place-requires : goal.place-place-requires
place-place-requires c =
    let book = c.self.inside in
    let given = sym (ap (find (is_numbered c.args.lease)) c.as_slice.ensures.value) ∙ sym c.given.ensures ∙ c.in-Some.is in
    let within = own_place _ book.events.items book.leases.items book.slots c.self.invariant c.args.lease c.in-Some.grant given in
    small_board _ book.events.items book.leases.items book.slots c.self.invariant c.in-Some.grant.entry within

pub slot-slot-requires : goal.slot-slot-requires
slot-slot-requires c =
    let book = c.self.inside in
    let given = sym (ap (find (is_numbered c.args.lease)) c.as_slice.ensures.value) ∙ sym c.given.ensures ∙ c.in-Some.is in
    let within = own_place _ book.events.items book.leases.items book.slots c.self.invariant c.args.lease c.in-Some.grant given in
    omega (arith, within, c.place-place.ensures)

pub set-requires : goal.set-requires
set-requires c =
    let book = c.self.inside in
    let given = sym (ap (find (is_numbered c.args.lease)) c.as_slice.ensures.value) ∙ sym c.given.ensures ∙ c.in-Some.is in
    let within = own_place _ book.events.items book.leases.items book.slots c.self.invariant c.args.lease c.in-Some.grant given in
    omega (arith, within, c.place-place.ensures)

pub take_back-held-requires : goal.take_back-held-requires
take_back-held-requires c =
    let book = c.self.inside in
    let given = sym (ap (find (is_numbered c.args.lease)) c.as_slice.ensures.value) ∙ sym c.given.ensures ∙ c.in-Some.is in
    let within = own_place _ book.events.items book.leases.items book.slots c.self.invariant c.args.lease c.in-Some.grant given in
    omega (arith, within, c.place-place.ensures)

pub invariant_of-self-then-is_some : goal.invariant_of-self-then-is_some
invariant_of-self-then-is_some c =
    let book = c.self.inside in
    let evidence = c.evidence_of-evidence.result in
    let given = sym (ap (find (is_numbered c.args.lease)) c.as_slice.ensures.value) ∙ sym c.given.ensures ∙ c.in-Some.is in
    let within = own_place _ book.events.items book.leases.items book.slots c.self.invariant c.args.lease c.in-Some.grant given in
    let same = sym c.if-not-is_same.ensures in
    let right = ap (λ boards. is_evidence_for boards c.args.entry evidence) (sym c.as_slice-2.ensures) ∙ sym c.if-not-is_evidence_for.ensures in
    let slot : c.slot-slot.result ≡ get_or book.slots (place_of c.in-Some.grant.entry) no_slot = c.slot-slot.ensures no_slot ∙ ap (λ n. get_or book.slots n no_slot) c.place-place.ensures in
    let published = ap (λ (s : Slot). is_some s.published) (sym slot) ∙ sym c.is_some.ensures ∙ c.if-is_some.true in
    (kept_in _ book.events.items _ _ (HandIn c.args.lease c.args.entry evidence) AlreadyPublished book.leases.items book.slots c.add-then-is_some.ensures.events c.make_room.ensures.events
    (kept_refused _ book.events.items book.leases.items book.slots c.self.invariant c.args.lease c.args.entry evidence AlreadyPublished refl (λ grant. refl) (λ place. refl) (published_reply _ book.events.items book.leases.items book.slots c.self.invariant c.args.lease no_slot c.args.entry evidence c.in-Some.grant given same right within published)))

pub returns-then-is_some-clause-ok : goal.returns-then-is_some-clause-ok
returns-then-is_some-clause-ok c =
    let book = c.self.inside in
    let evidence = c.evidence_of-evidence.result in
    let given = sym (ap (find (is_numbered c.args.lease)) c.as_slice.ensures.value) ∙ sym c.given.ensures ∙ c.in-Some.is in
    let within = own_place _ book.events.items book.leases.items book.slots c.self.invariant c.args.lease c.in-Some.grant given in
    let same = sym c.if-not-is_same.ensures in
    let right = ap (λ boards. is_evidence_for boards c.args.entry evidence) (sym c.as_slice-2.ensures) ∙ sym c.if-not-is_evidence_for.ensures in
    let slot : c.slot-slot.result ≡ get_or book.slots (place_of c.in-Some.grant.entry) no_slot = c.slot-slot.ensures no_slot ∙ ap (λ n. get_or book.slots n no_slot) c.place-place.ensures in
    let published = ap (λ (s : Slot). is_some s.published) (sym slot) ∙ sym c.is_some.ensures ∙ c.if-is_some.true in
    rw (← c.evidence_of-evidence.ensures.same)
    (replied _ book.events.items _ _ c.args.self.now (HandIn c.args.lease c.args.entry evidence) AlreadyPublished c.add-then-is_some.result c.self.view_is c.add-then-is_some.ensures.events c.make_room.ensures.events c.add-then-is_some.ensures.reply
    (published_reply _ book.events.items book.leases.items book.slots c.self.invariant c.args.lease no_slot c.args.entry evidence c.in-Some.grant given same right within published))

pub invariant_of-self-in-Shows : goal.invariant_of-self-in-Shows
invariant_of-self-in-Shows c =
    let book = c.self.inside in
    let evidence = c.evidence_of-evidence.result in
    let given = sym (ap (find (is_numbered c.args.lease)) c.as_slice.ensures.value) ∙ sym c.given.ensures ∙ c.in-Some.is in
    let within = own_place _ book.events.items book.leases.items book.slots c.self.invariant c.args.lease c.in-Some.grant given in
    let same = sym c.if-not-is_same.ensures in
    let right = ap (λ boards. is_evidence_for boards c.args.entry evidence) (sym c.as_slice-2.ensures) ∙ sym c.if-not-is_evidence_for.ensures in
    let slot : c.slot-slot.result ≡ get_or book.slots (place_of c.in-Some.grant.entry) no_slot = c.slot-slot.ensures no_slot ∙ ap (λ n. get_or book.slots n no_slot) c.place-place.ensures in
    let unpublished = ap (λ (s : Slot). is_some s.published) (sym slot) ∙ sym c.is_some.ensures ∙ c.if-is_some.false in
    rw (numbered_slots book.slots c.set.new.self c.place-place.result (place_of c.in-Some.grant.entry) c.in-Shows.shown.k c.slot-slot.result c.with_number.result no_slot c.set.ensures c.with_number.ensures slot c.place-place.ensures)
    (kept_in _ book.events.items _ _ (HandIn c.args.lease c.args.entry evidence) (Published c.in-Shows.shown.k) book.leases.items _ c.add-in-Shows.ensures.events c.make_room.ensures.events
    (kept_shows _ book.events.items book.leases.items book.slots c.self.invariant c.args.lease no_slot c.args.entry evidence c.in-Shows.shown c.in-Some.grant c.in-Shows.is c.evidence_of-evidence.ensures.proven given same right within unpublished))

pub invariant_of-self-in-Faulty : goal.invariant_of-self-in-Faulty
invariant_of-self-in-Faulty c =
    let book = c.self.inside in
    let evidence = c.evidence_of-evidence.result in
    let given = sym (ap (find (is_numbered c.args.lease)) c.as_slice.ensures.value) ∙ sym c.given.ensures ∙ c.in-Some.is in
    let within = own_place _ book.events.items book.leases.items book.slots c.self.invariant c.args.lease c.in-Some.grant given in
    let same = sym c.if-not-is_same.ensures in
    let right = ap (λ boards. is_evidence_for boards c.args.entry evidence) (sym c.as_slice-2.ensures) ∙ sym c.if-not-is_evidence_for.ensures in
    let slot : c.slot-slot.result ≡ get_or book.slots (place_of c.in-Some.grant.entry) no_slot = c.slot-slot.ensures no_slot ∙ ap (λ n. get_or book.slots n no_slot) c.place-place.ensures in
    let unpublished = ap (λ (s : Slot). is_some s.published) (sym slot) ∙ sym c.is_some.ensures ∙ c.if-is_some.false in
    rw (rw c.place-place.ensures at c.take_back-held.ensures.slots no_slot)
    (kept_in _ book.events.items _ _ (HandIn c.args.lease c.args.entry evidence) (BadCertificate c.in-Faulty.fault) book.leases.items _ c.add-in-Faulty.ensures.events c.make_room.ensures.events
    (kept_shows_nothing _ book.events.items book.leases.items book.slots c.self.invariant c.args.lease no_slot c.args.entry evidence c.in-Faulty.fault c.in-Some.grant c.in-Faulty.is given same right within unpublished))

pub returns-in-Shows-clause-ok : goal.returns-in-Shows-clause-ok
returns-in-Shows-clause-ok c =
    let book = c.self.inside in
    let evidence = c.evidence_of-evidence.result in
    let given = sym (ap (find (is_numbered c.args.lease)) c.as_slice.ensures.value) ∙ sym c.given.ensures ∙ c.in-Some.is in
    let within = own_place _ book.events.items book.leases.items book.slots c.self.invariant c.args.lease c.in-Some.grant given in
    let same = sym c.if-not-is_same.ensures in
    let right = ap (λ boards. is_evidence_for boards c.args.entry evidence) (sym c.as_slice-2.ensures) ∙ sym c.if-not-is_evidence_for.ensures in
    let slot : c.slot-slot.result ≡ get_or book.slots (place_of c.in-Some.grant.entry) no_slot = c.slot-slot.ensures no_slot ∙ ap (λ n. get_or book.slots n no_slot) c.place-place.ensures in
    let unpublished = ap (λ (s : Slot). is_some s.published) (sym slot) ∙ sym c.is_some.ensures ∙ c.if-is_some.false in
    rw (← c.evidence_of-evidence.ensures.same)
    (replied _ book.events.items _ _ c.args.self.now (HandIn c.args.lease c.args.entry evidence) (Published c.in-Shows.shown.k) c.add-in-Shows.result c.self.view_is c.add-in-Shows.ensures.events c.make_room.ensures.events c.add-in-Shows.ensures.reply
    (shows_reply _ book.events.items book.leases.items book.slots c.self.invariant c.args.lease no_slot c.args.entry evidence c.in-Shows.shown c.in-Some.grant c.in-Shows.is given same right within unpublished))

pub returns-in-Faulty-clause-ok : goal.returns-in-Faulty-clause-ok
returns-in-Faulty-clause-ok c =
    let book = c.self.inside in
    let evidence = c.evidence_of-evidence.result in
    let given = sym (ap (find (is_numbered c.args.lease)) c.as_slice.ensures.value) ∙ sym c.given.ensures ∙ c.in-Some.is in
    let within = own_place _ book.events.items book.leases.items book.slots c.self.invariant c.args.lease c.in-Some.grant given in
    let same = sym c.if-not-is_same.ensures in
    let right = ap (λ boards. is_evidence_for boards c.args.entry evidence) (sym c.as_slice-2.ensures) ∙ sym c.if-not-is_evidence_for.ensures in
    let slot : c.slot-slot.result ≡ get_or book.slots (place_of c.in-Some.grant.entry) no_slot = c.slot-slot.ensures no_slot ∙ ap (λ n. get_or book.slots n no_slot) c.place-place.ensures in
    let unpublished = ap (λ (s : Slot). is_some s.published) (sym slot) ∙ sym c.is_some.ensures ∙ c.if-is_some.false in
    rw (← c.evidence_of-evidence.ensures.same)
    (replied _ book.events.items _ _ c.args.self.now (HandIn c.args.lease c.args.entry evidence) (BadCertificate c.in-Faulty.fault) c.add-in-Faulty.result c.self.view_is c.add-in-Faulty.ensures.events c.make_room.ensures.events c.add-in-Faulty.ensures.reply
    (faulty_reply _ book.events.items book.leases.items book.slots c.self.invariant c.args.lease no_slot c.args.entry evidence c.in-Faulty.fault c.in-Some.grant c.in-Faulty.is given same right within unpublished))

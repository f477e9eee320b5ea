use Rattle.std.proofs.Common.{◌≡◌, ℕ, ◌<◌, ◌≤◌, length, Option, None, Some, IfSome, sym, ◌∙◌, ap, refl, arith}
use Rattle.lease_book.specs.declared.entries.Entry.{Entry}
use Rattle.lease_book.specs.declared.slots.Slot.{Slot}
use Rattle.lease_book.specs.Entries.{place_of}
use Rattle.lease_book.specs.Twins.{twin_of}
use Rattle.lease_book.specs.Keeping.{published_at}
use Rattle.lease_book.proofs.SlotLaws.{no_slot}
use Rattle.lease_book.proofs.EntryLaws.{contract_below}
use Rattle.lease_book.proofs.NamedLaws.{published_is, proven_for}
use Rattle.lease_book.proofs.book.Book.published.Goals as goal

bounded : (number : Option ℕ) → ((k : ℕ) → number ≡ Some k → k ≤ 13) → IfSome number (λ k. k ≤ 13)
bounded None h = tt
bounded (Some k) h = h k refl

pub returns-clause-number : goal.returns-clause-number
returns-clause-number c =
    let book = c.self.inside in
    let twin = c.twin-twin.result in
    let same : twin ≡ twin_of book.boards c.args.entry = rw (← c.self.view_is) at c.twin-twin.ensures.twin in
    let within : place_of twin < length book.slots = omega (arith, c.self.invariant.sized, contract_below twin.declarer twin.trump, c.len.ensures) in
    rw (← c.self.view_is)
    (ap (λ (s : Slot). s.published) (c.slot.ensures no_slot)
    ∙ rw c.place.ensures (ap (λ (s : Slot). s.published) (c.self.invariant.slots_are (place_of twin) no_slot within))
    ∙ ap (λ (e : Entry). published_at (place_of e) book.events.items) same
    ∙ sym (published_is _ book.events.items c.args.entry c.self.invariant.legal))

pub returns-then-twin-len-clause-number : goal.returns-then-twin-len-clause-number
returns-then-twin-len-clause-number c =
    let book = c.self.inside in
    let twin = c.twin-twin.result in
    let same : twin ≡ twin_of book.boards c.args.entry = rw (← c.self.view_is) at c.twin-twin.ensures.twin in
    let past : length book.slots ≤ place_of twin = omega (arith, c.self.invariant.sized, c.len.ensures) in
    rw (← c.self.view_is)
    (sym (published_is _ book.events.items c.args.entry c.self.invariant.legal
    ∙ ap (λ (e : Entry). published_at (place_of e) book.events.items) (sym same)
    ∙ c.self.invariant.only_there (place_of twin) past))

pub returns-clause-proven : goal.returns-clause-proven
returns-clause-proven c = rw (← c.self.view_is) (proven_for _ c.self.inside.events.items c.self.invariant.legal c.self.invariant.proven)

pub returns-then-twin-len-clause-proven : goal.returns-then-twin-len-clause-proven
returns-then-twin-len-clause-proven c = rw (← c.self.view_is) (proven_for _ c.self.inside.events.items c.self.invariant.legal c.self.invariant.proven)

pub returns-clause-at_most_13 : goal.returns-clause-at_most_13
returns-clause-at_most_13 c =
    let book = c.self.inside in
    let twin = c.twin-twin.result in
    let within : place_of twin < length book.slots = omega (arith, c.self.invariant.sized, contract_below twin.declarer twin.trump, c.len.ensures) in
    let slot = rw c.place.ensures at c.slot.ensures no_slot in
    bounded c.slot.result.published
    (λ k h. c.self.invariant.at_most_13 (place_of twin) k
    (sym (ap (λ (s : Slot). s.published) (slot ∙ c.self.invariant.slots_are (place_of twin) no_slot within)) ∙ h))

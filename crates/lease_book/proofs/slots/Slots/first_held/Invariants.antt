use Rattle.std.proofs.Common.{◌≡◌, ◌<◌, ℕ, false, get_or}
use Rattle.lease_book.specs.declared.slots.Slot.{Slot}
use Rattle.lease_book.specs.Slots.{is_held_slot}
use Rattle.lease_book.proofs.slots.Slots.first_held.Given as goal

abbrev pub invariant-loop-place : goal.invariant-loop-place
invariant-loop-place l = (place : ℕ) (d : Slot) → place < l.place → is_held_slot (get_or l.self place d) ≡ false

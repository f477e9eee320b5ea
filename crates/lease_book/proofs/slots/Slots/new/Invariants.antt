-- The slots before `place` are as the boards say; the others are closed.
use Rattle.std.proofs.Common.{◌≡◌, ◌*◌, ◌<◌, ◌≤◌, ℕ, length, get_or}
use Rattle.lease_book.specs.declared.slots.Slot.{Slot}
use Rattle.lease_book.specs.Slots.{new_slot, tries_of}
use Rattle.lease_book.proofs.slots.Slots.new.Given as goal

abbrev pub invariant-loop-place : goal.invariant-loop-place
invariant-loop-place l = record {
  done : (place : ℕ) (d : Slot) → place < l.place → get_or l.slots place d ≡ new_slot (tries_of l.boards l.tries place);
  rest : (place : ℕ) (d : Slot) → l.place ≤ place → place < l.count → get_or l.slots place d ≡ new_slot 0;
  sized : length l.slots ≡ l.count;
  counted : l.count ≡ 20 * length l.boards;
}

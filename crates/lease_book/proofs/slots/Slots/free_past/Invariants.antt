-- The slots before `from` are freed where they are past, and counted; the others are as they were.
use Rattle.std.proofs.Common.{◌≡◌, ◌-◌, ◌<◌, ◌≤◌, ℕ, length, get_or, take, count_by}
use Rattle.lease_book.specs.declared.slots.Slot.{Slot}
use Rattle.lease_book.specs.Slots.{is_past_slot, freed_if_past}
use Rattle.lease_book.proofs.slots.Slots.free_past.Given as goal

abbrev pub invariant-loop-place : goal.invariant-loop-place
invariant-loop-place l = record {
  done : (place : ℕ) (d : Slot) → place < l.from → get_or l.self place d ≡ freed_if_past l.now (get_or l.fn.self place d);
  rest : (place : ℕ) (d : Slot) → l.from ≤ place → get_or l.self place d ≡ get_or l.fn.self place d;
  counted : l.count ≡ count_by (is_past_slot l.now) (take l.from l.fn.self);
  few : l.count ≤ l.from;
  within : l.from ≤ l.end;
  sized : length l.self ≡ l.end;
  before : length l.fn.self ≡ l.end;
}

abbrev pub decreases-loop-place : goal.decreases-loop-place
decreases-loop-place l = l.end - l.from

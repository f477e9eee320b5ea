use Rattle.std.proofs.Common.{◌≡◌, ℕ, false, get_or, sym, ◌∙◌, ap, below_more, arith}
use Rattle.lease_book.specs.declared.slots.Slot.{Slot}
use Rattle.lease_book.specs.Slots.{is_held_slot}
use Rattle.lease_book.proofs.slots.Slots.first_held.Goals as goal

pub returns-then-is_some : goal.returns-then-is_some
returns-then-is_some c =
    record {
      from_on = omega arith;
      within = omega arith;
      passes = λ d. ap is_held_slot (sym (c.slot.ensures d)) ∙ sym c.is_some.ensures ∙ c.if-is_some.true;
      first = λ other d h l. c.loop-place.invariant other d l;
    }

pub loop-place-preserved : goal.loop-place-preserved
loop-place-preserved c =
    λ place d l.
    below_more (λ (k : ℕ). (e : Slot) → is_held_slot (get_or c.args.self.now k e) ≡ false) c.loop-place.place
    (λ k m e. c.loop-place.invariant k e m)
    (λ e. ap is_held_slot (sym (c.slot.ensures e)) ∙ sym c.is_some.ensures ∙ c.if-is_some.false)
    place l d

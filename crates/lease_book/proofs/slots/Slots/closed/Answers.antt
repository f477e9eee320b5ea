use Rattle.std.proofs.Common.{sym, ◌∙◌, ap, map, rules, refl}
use Rattle.lease_book.specs.Slots.{deadline_of, opening_of, new_slot}
use Rattle.lease_book.proofs.SlotLaws.{moments_none}
use Rattle.lease_book.proofs.slots.Slots.closed.Goals as goal

pub invariant_of-result : goal.invariant_of-result
invariant_of-result c =
    let slots = c.in_ok-slots.ensures.items_if_clones_equal (search rules) in (
      c.in_ok-deadlines.ensures ∙ moments_none deadline_of (new_slot 0) c.args.count refl ∙ ap (map deadline_of) (sym slots),
      c.in_ok-openings.ensures ∙ moments_none opening_of (new_slot 0) c.args.count refl ∙ ap (map opening_of) (sym slots),
    )

use Rattle.std.proofs.Common.{sym, ◌∙◌, ap, set, map}
use Rattle.std.proofs.lemmas.List.{map-set}
use Rattle.lease_book.specs.Slots.{opening_of, deadline_of}
use Rattle.lease_book.proofs.slots.Slots.set.Goals as goal

pub invariant_of-self : goal.invariant_of-self
invariant_of-self c =
    let slots = c.self.inside.slots.items in
    let place = c.args.place in
    let slot = c.args.slot in (
      c.set.ensures ∙ ap (λ row. set row place c.deadline.result) c.self.invariant.0 ∙ ap (λ moment. set (map deadline_of slots) place moment) c.deadline.ensures ∙ sym (map-set deadline_of slots place slot),
      c.set-2.ensures ∙ ap (λ row. set row place c.opening.result) c.self.invariant.1 ∙ ap (λ moment. set (map opening_of slots) place moment) c.opening.ensures ∙ sym (map-set opening_of slots place slot),
    )

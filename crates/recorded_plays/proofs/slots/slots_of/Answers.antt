use Rattle.std.proofs.Common.{◌≡◌, ◌-◌, List, cond, length, take, sym, ◌∙◌, ap, Vec, Global}
use Rattle.std.specs.List.{filter_map, slice_split}
use Rattle.pbn_deals.specs.Letters.{is_blank}
use Rattle.recorded_plays.specs.declared.plays.Slot.{Slot}
use Rattle.recorded_plays.specs.Slots.{word_slot, words_slots}
use Rattle.recorded_plays.proofs.slots.slots_of.Goals as goal
use Rattle.recorded_plays.proofs.slots.slots_of.Goals.{then-is_irregular, else-is_irregular}

pub returns : goal.returns
returns c =
    let whole = words_slots c.args.text.now in
    let are : c.in_ok-slots.slots.items ≡ whole = c.in_ok-slots.ensures ∙ ap (λ t. filter_map word_slot (slice_split is_blank t)) c.before_any.ensures.front in
    elim c.if-is_irregular.branch [
      | then-is_irregular w ↦
          ap (λ (v : Vec Slot Global). v.items) w.slots-is
          ∙ (w.pop.ensures.rest ∙ (ap (λ n. take (n - 1) c.in_ok-slots.slots.items) c.in_ok-slots.slots.ok.0
          ∙ (ap (λ (l : List Slot). take (length l - 1) l) are
          ∙ ap (λ b. cond b (take (length whole - 1) whole) whole) (sym (sym c.is_irregular.ensures ∙ w.if-is_irregular.true)))))
      | else-is_irregular w ↦
          ap (λ (v : Vec Slot Global). v.items) w.slots-is
          ∙ (are ∙ ap (λ b. cond b (take (length whole - 1) whole) whole) (sym (sym c.is_irregular.ensures ∙ w.if-is_irregular.false)))
    ]

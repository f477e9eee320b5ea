use Rattle.std.proofs.Common.{List, ℕ, Option, [], ◌∷◌, Some, ◌∙◌, ap}
use Rattle.std.specs.Borrow.{Bor}
use Rattle.std.specs.List.{filter_map, slice_split}
use Rattle.std.specs.Option.{option_map_or}
use Rattle.pbn_deals.specs.Letters.{is_blank}
use Rattle.recorded_plays.specs.Slots.{word_slot}
use Rattle.recorded_plays.proofs.WordsCut.{word_more}
use Rattle.recorded_plays.proofs.slots.words_slots.Goals as goal

pub loop-slots-preserved : goal.loop-slots-preserved
loop-slots-preserved c =
    let word = c.cut_word.result.0.now in
    let cut = c.cut_word.ensures.split ∙ ap (λ (o : Option (Bor (List ℕ))). word ∷ option_map_or (λ (r : Bor (List ℕ)). slice_split is_blank r.now) o []) c.in-Some.is in
    word_more word_slot c.loop-slots.slots.items c.push_word.new.slots.items (filter_map word_slot (slice_split is_blank c.args.text.now)) word c.loop-slots.rest.now (Some c.in-Some.next) cut c.in_ok-push_word.ensures c.loop-slots.invariant

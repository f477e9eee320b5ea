-- The words so far were taken.
use Rattle.std.proofs.Common.{◌≡◌, ◌++◌, length}
use Rattle.std.specs.List.{filter_map, slice_split}
use Rattle.pbn_deals.specs.Letters.{is_blank}
use Rattle.recorded_plays.specs.Slots.{word_slot}
use Rattle.recorded_plays.proofs.slots.words_slots.Given as goal

abbrev pub invariant-loop-slots : goal.invariant-loop-slots
invariant-loop-slots l =
    l.slots.items ++ filter_map word_slot (slice_split is_blank l.rest) ≡ filter_map word_slot (slice_split is_blank l.fn.text)

abbrev pub decreases-loop-slots : goal.decreases-loop-slots
decreases-loop-slots l = length l.rest

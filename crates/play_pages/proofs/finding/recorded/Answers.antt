use Rattle.std.proofs.Common.{◌∙◌, ap, arith, length}
use Rattle.play_pages.proofs.RecordedLaws.{begun, next_legal, recorded_more, all_recorded}
use Rattle.play_pages.proofs.finding.recorded.Goals as goal

pub loop-place-init : goal.loop-place-init
loop-place-init c = begun c.args.play.now c.new-recorded.result (rw c.next.ensures at c.new-recorded.ensures.opening) c.new-recorded.ensures.history (c.new-recorded.ensures.declarers ∙ c.side.ensures)

pub record_card-requires : goal.record_card-requires
record_card-requires c =
    next_legal c.args.play.now c.loop-place.recorded c.as_slice-cards.result.now c.loop-place.place _ c.as_slice-cards.ensures.value (omega arith) c.loop-place.invariant c.requires

pub loop-place-preserved : goal.loop-place-preserved
loop-place-preserved c =
    recorded_more c.args.play.now c.loop-place.recorded c.as_slice-cards.result.now c.loop-place.place _ c.as_slice-cards.ensures.value (omega arith) c.loop-place.invariant c.record_card.new.recorded c.record_card.ensures

pub returns : goal.returns
returns c =
    all_recorded c.args.play.now c.loop-place.recorded c.loop-place.place (omega (arith, ap length c.as_slice-cards.ensures.value)) c.loop-place.invariant

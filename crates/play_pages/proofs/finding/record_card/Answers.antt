use Rattle.play_pages.proofs.RecordedLaws.{never_refused}
use Rattle.play_pages.proofs.finding.record_card.Goals as goal

pub unreachable-requires : goal.unreachable-requires
unreachable-requires c =
    never_refused c.args.recorded.now.position c.args.card c.in-Err.field-0 c.invariant.ensures.layout c.requires c.in-Err.ensures.cases

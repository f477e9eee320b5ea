use Rattle.std.proofs.Common.{length, ap, arith}
use Rattle.std.proofs.lemmas.Option.{slice_get-get_or}
use Rattle.play_pages.proofs.finding.line_at.Goals as goal

pub overflow_add-place : goal.overflow_add-place
overflow_add-place c = omega (arith, c.requires, ap length c.cards-cards.ensures)

pub returns-clause-card : goal.returns-clause-card
returns-clause-card c =
    rw (← c.cards-cards.ensures) (slice_get-get_or c.cards-cards.result.now c.args.place _ (omega (arith, c.requires, ap length c.cards-cards.ensures)))

use Rattle.std.proofs.Common.{refl, rules}
use Rattle.progress.proofs.CountLaws.{counted_past, counted_more}
use Rattle.progress.proofs.counts.Counts.publish.Goals as goal

pub returns-then-board-ge-MOST_BOARDS : goal.returns-then-board-ge-MOST_BOARDS
returns-then-board-ge-MOST_BOARDS c = λ boards published few before.
    counted_past boards published c.args.board few c.args.self.now before c.if-board-ge-MOST_BOARDS.true

pub returns-then-now-eq-RESULTS : goal.returns-then-now-eq-RESULTS
returns-then-now-eq-RESULTS c = λ boards published few before.
    counted_more boards published c.args.board few c.args.self.now before c.if-board-ge-MOST_BOARDS.false (search rules) _ _ _
    c.saturating_add-self.ensures c.saturating_add-now.ensures (λ is. c.saturating_add-self-then-now-eq-RESULTS.ensures) (λ no. absurd (no c.if-now-eq-RESULTS.true))

pub returns-else-now-eq-RESULTS : goal.returns-else-now-eq-RESULTS
returns-else-now-eq-RESULTS c = λ boards published few before.
    counted_more boards published c.args.board few c.args.self.now before c.if-board-ge-MOST_BOARDS.false (search rules) _ _ _
    c.saturating_add-self.ensures c.saturating_add-now.ensures (λ is. absurd (c.if-now-eq-RESULTS.false is)) (λ no. refl)

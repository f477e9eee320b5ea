use Rattle.lease_book.proofs.TruthLaws.{true_history}
use Rattle.lease_book.proofs.true_histories.is_true_history.Goals as goal

pub returns : goal.returns
returns c = true_history c.args.book.now.terms c.args.book.now.events c.history-events.ensures.legal c.published-number.ensures.proven

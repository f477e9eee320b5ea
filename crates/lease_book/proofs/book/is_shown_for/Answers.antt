use Rattle.std.proofs.Common.{rules}
use Rattle.lease_book.proofs.book.is_shown_for.Goals as goal

pub returns-then-eq : goal.returns-then-eq
returns-then-eq c = search rules

use Rattle.std.proofs.Common.{rules}
use Rattle.lease_book.proofs.book.take_back.Goals as goal

pub returns-clause-reply : goal.returns-clause-reply
returns-clause-reply c = search rules

pub returns-clause-slots : goal.returns-clause-slots
returns-clause-slots c = search rules

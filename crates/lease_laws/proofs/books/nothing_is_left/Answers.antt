use Rattle.lease_book.proofs.NamedLaws.{nothing_left}
use Rattle.lease_laws.proofs.books.nothing_is_left.Goals as goal

pub returns : goal.returns
returns c = nothing_left

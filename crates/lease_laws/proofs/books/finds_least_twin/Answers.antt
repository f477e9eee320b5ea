use Rattle.lease_book.proofs.TwinLaws.{least_twin}
use Rattle.lease_laws.proofs.books.finds_least_twin.Goals as goal

pub returns : goal.returns
returns c = least_twin

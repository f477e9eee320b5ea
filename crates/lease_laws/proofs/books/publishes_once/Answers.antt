use Rattle.lease_book.proofs.PublicationLaws.{publishes_once}
use Rattle.lease_laws.proofs.books.publishes_once.Goals as goal

pub returns : goal.returns
returns c = publishes_once

use Rattle.lease_laws.proofs.PublicationLaws.{publishes_first_good}
use Rattle.lease_laws.proofs.books.publishes_first_good.Goals as goal

pub returns : goal.returns
returns c = publishes_first_good

use Rattle.lease_laws.proofs.LegalLaws.{leases_least}
use Rattle.lease_laws.proofs.books.leases_least_twins.Goals as goal

pub returns : goal.returns
returns c = leases_least

use Rattle.lease_laws.proofs.LegalLaws.{few_leases}
use Rattle.lease_laws.proofs.books.gives_few_leases.Goals as goal

pub returns : goal.returns
returns c = few_leases

use Rattle.lease_laws.proofs.LegalLaws.{one_reply}
use Rattle.lease_laws.proofs.books.names_one_reply.Goals as goal

pub returns : goal.returns
returns c = one_reply

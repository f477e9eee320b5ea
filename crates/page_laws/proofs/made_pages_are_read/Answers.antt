use Rattle.page_laws.proofs.ReadingLaws.{made_pages_are_read}
use Rattle.page_laws.proofs.made_pages_are_read.Goals as goal

pub returns : goal.returns
returns c = made_pages_are_read

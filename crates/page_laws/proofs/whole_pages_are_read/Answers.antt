use Rattle.page_laws.proofs.WholePageLaws.{whole_pages_are_read}
use Rattle.page_laws.proofs.whole_pages_are_read.Goals as goal

pub returns : goal.returns
returns c = whole_pages_are_read

use Rattle.page_laws.proofs.SheetLaws.{sheet_pages_are_read}
use Rattle.page_laws.proofs.sheet_pages_are_read.Goals as goal

pub returns : goal.returns
returns c = sheet_pages_are_read

use Rattle.page_laws.proofs.TablesPageLaws.{tables_pages_are_read}
use Rattle.page_laws.proofs.tables_pages_are_read.Goals as goal

pub returns : goal.returns
returns c = tables_pages_are_read

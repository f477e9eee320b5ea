use Rattle.page_laws.proofs.ReadingLaws.{replayed_tables_are_read}
use Rattle.page_laws.proofs.replayed_tables_are_read.Goals as goal

pub returns : goal.returns
returns c = replayed_tables_are_read

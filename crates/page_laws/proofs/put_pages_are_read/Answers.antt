use Rattle.page_laws.proofs.ReadingLaws.{put_pages_are_read}
use Rattle.page_laws.proofs.put_pages_are_read.Goals as goal

pub returns : goal.returns
returns c = put_pages_are_read

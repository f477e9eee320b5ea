use Rattle.sheet_reading.proofs.SheetRead.{sheets_are_read}
use Rattle.sheet_reading.proofs.sheets_are_read.Goals as goal

pub returns : goal.returns
returns c = sheets_are_read

use Rattle.sheet_reading.proofs.OneSheet.{sheets_say_one_thing}
use Rattle.sheet_reading.proofs.sheets_say_one_thing.Goals as goal

pub returns : goal.returns
returns c = sheets_say_one_thing

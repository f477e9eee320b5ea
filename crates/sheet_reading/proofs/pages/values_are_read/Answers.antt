use Rattle.sheet_reading.proofs.ValueTexts.{value-resolved}
use Rattle.sheet_reading.proofs.pages.values_are_read.Goals as goal

pub returns : goal.returns
returns c = λ value. value-resolved value

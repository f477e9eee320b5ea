use Rattle.html.proofs.PlainTexts.{plain-stays}
use Rattle.sheet_reading.proofs.pages.plain_values_stay.Goals as goal

pub returns : goal.returns
returns c = λ value h. plain-stays value h

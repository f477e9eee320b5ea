use Rattle.html.specs.Places.{InText}
use Rattle.sheet_reading.proofs.Parts.{tags-append, parts-append}
use Rattle.sheet_reading.proofs.pages.pages_add.Goals as goal

pub returns : goal.returns
returns c = λ page after h. record {
  markup = tags-append InText page after h;
  parts = parts-append InText page after h;
}

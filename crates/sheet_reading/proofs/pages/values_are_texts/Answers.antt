use Rattle.std.proofs.Common.{ℕ, ◌<◌}
use Rattle.html.specs.Values.{value_text}
use Rattle.html.proofs.Each.{each-from}
use Rattle.sheet_reading.proofs.Parts.{calm-parts}
use Rattle.sheet_reading.proofs.ValueTexts.{value-calm, value-read}
use Rattle.sheet_reading.proofs.pages.values_are_texts.Goals as goal

pub returns : goal.returns
returns c = λ value h. record {
  one = calm-parts (value_text value) (value-calm value);
  read = value-read value (each-from (λ (byte : ℕ). byte < 256) value h);
}

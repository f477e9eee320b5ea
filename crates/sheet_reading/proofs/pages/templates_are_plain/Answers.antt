use Rattle.std.proofs.Common.{ℕ, List, ◌∙◌}
use Rattle.html.specs.Places.{InText}
use Rattle.sheet_reading.specs.Pages.{parts_from}
use Rattle.html.specs.Templates.{filled}
use Rattle.html.specs.PlainTemplates.{is_template}
use Rattle.html.specs.Values.{value_text}
use Rattle.sheet_reading.proofs.Filling.{InPage, AreCalm, same-filled, end-filled}
use Rattle.sheet_reading.proofs.FilledTexts.{fill_all, parts-filled}
use Rattle.sheet_reading.proofs.ValueTexts.{value-calm}
use Rattle.sheet_reading.proofs.pages.templates_are_plain.Goals as goal

pub returns : goal.returns
unfolding filled is_template
returns c = λ template h. record {
  same = λ values others.
      same-filled (λ name. value_text (values name)) (λ name. value_text (others name))
      (λ name. value-calm (values name)) (λ name. value-calm (others name)) template (InPage InText) h;
  ends = λ values.
      end-filled (λ name. value_text (values name)) (λ name. value-calm (values name)) template (InPage InText) h;
  parts = λ values.
      let texts : List ℕ → List ℕ = λ name. value_text (values name) in
      let calm : AreCalm texts = λ name. value-calm (values name) in
      parts-filled texts calm template (InPage InText) h ∙ fill_all texts calm (parts_from InText template);
}

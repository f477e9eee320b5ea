use Rattle.std.proofs.Common.{refl}
use Rattle.html.specs.PlainTemplates.{is_template}
use Rattle.play_sheets.proofs.templates.values_stand_between_tags.Goals as goal

pub returns : goal.returns
unfolding is_template
returns c = (refl, refl)

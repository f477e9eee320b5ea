use Rattle.std.proofs.Common.{refl}
use Rattle.play_sheet_laws.proofs.GameMarkup.{same-sheet}
use Rattle.play_sheet_laws.proofs.plays_markup_is_ours.Goals as goal

pub returns-clause-same : goal.returns-clause-same
returns-clause-same c = λ games others lines e. (same-sheet games others lines e).markup

pub returns-clause-ends : goal.returns-clause-ends
returns-clause-ends c = λ games lines. (same-sheet games games lines refl).one_ends

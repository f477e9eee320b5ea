use Rattle.std.proofs.Common.{refl}
use Rattle.sheet_reading.proofs.SheetMarkup.{same-sheet}
use Rattle.sheet_reading.proofs.markup.markup_is_ours.Goals as goal

pub returns-clause-same : goal.returns-clause-same
returns-clause-same c = λ one other e. (same-sheet one other e).markup

pub returns-clause-ends : goal.returns-clause-ends
returns-clause-ends c = λ shown. (same-sheet shown shown refl).one_ends

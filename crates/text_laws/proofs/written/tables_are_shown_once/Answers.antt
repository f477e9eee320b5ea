use Rattle.text_laws.proofs.ShownOnce.{show_each_once}
use Rattle.text_laws.proofs.written.tables_are_shown_once.Goals as goal

pub returns : goal.returns
returns c = show_each_once

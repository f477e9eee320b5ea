use Rattle.text_laws.proofs.WrittenLines.{ends_are_given}
use Rattle.text_laws.proofs.written.ends_are_given.Goals as goal

pub returns : goal.returns
returns c = ends_are_given

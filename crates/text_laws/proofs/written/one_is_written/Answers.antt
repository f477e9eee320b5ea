use Rattle.text_laws.proofs.WrittenLines.{one_is_written}
use Rattle.text_laws.proofs.written.one_is_written.Goals as goal

pub returns : goal.returns
returns c = one_is_written

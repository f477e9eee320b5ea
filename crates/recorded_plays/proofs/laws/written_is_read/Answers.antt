use Rattle.recorded_plays.proofs.WrittenBack.{written_is_read}
use Rattle.recorded_plays.proofs.laws.written_is_read.Goals as goal

pub returns : goal.returns
returns c = written_is_read

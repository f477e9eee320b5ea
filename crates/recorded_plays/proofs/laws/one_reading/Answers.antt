use Rattle.recorded_plays.proofs.OneReading.{one_reading}
use Rattle.recorded_plays.proofs.laws.one_reading.Goals as goal

pub returns : goal.returns
returns c = one_reading

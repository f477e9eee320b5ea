use Rattle.text_laws.proofs.AgainSame.{stay_the_same}
use Rattle.text_laws.proofs.written.tables_stay.Goals as goal

pub returns : goal.returns
returns c = stay_the_same

use Rattle.std.proofs.Common.{refl}
use Rattle.certificate_graph.proofs.writing.seat_byte.Goals as goal

pub returns-in-North : goal.returns-in-North
returns-in-North c = rw c.in-North.is refl

pub returns-in-East : goal.returns-in-East
returns-in-East c = rw c.in-East.is refl

pub returns-in-South : goal.returns-in-South
returns-in-South c = rw c.in-South.is refl

pub returns-in-West : goal.returns-in-West
returns-in-West c = rw c.in-West.is refl

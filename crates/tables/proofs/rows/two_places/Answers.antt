use Rattle.std.proofs.Common.{arith}
use Rattle.tables.proofs.NumberLemmas.{two_places_small, two_places_great}
use Rattle.tables.proofs.rows.two_places.Goals as goal
use Rattle.tables.proofs.rows.two_places.Goals.{then-number-lt10, else-number-lt10}

pub returns : goal.returns
returns c =
    elim c.if-number-lt10.branch [
      | then-number-lt10 w ↦ rw w.tens-is (two_places_small c.args.number (omega arith))
      | else-number-lt10 w ↦ rw w.tens-is (two_places_great c.args.number (omega arith) (omega arith))
    ]

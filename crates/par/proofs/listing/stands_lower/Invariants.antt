-- No contract stands at a level so far.
use Rattle.std.proofs.Common.{◌<◌}
use Rattle.par.specs.declared.bids.Level.{Level}
use Rattle.par.specs.Bids.{level_number}
use Rattle.par.specs.Boards.{tricks_in}
use Rattle.par.specs.FinalScores.{final_score}
use Rattle.par.specs.ParContracts.{Stands, at_level}
use Rattle.par.proofs.listing.stands_lower.Given as goal

abbrev pub invariant-loop-number : goal.invariant-loop-number
invariant-loop-number l =
    (level : Level) → level_number level < l.number
    → Stands (final_score (tricks_in l.tricks) l.vulnerable) l.par (at_level l.contract level) → ⊥

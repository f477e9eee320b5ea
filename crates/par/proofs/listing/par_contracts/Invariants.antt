-- The list has the par contracts among the contracts so far.
use Rattle.std.proofs.Common.{◌≡◌, List, map}
use Rattle.par.specs.declared.contracts.Contract.{Contract}
use Rattle.par.specs.Boards.{tricks_in}
use Rattle.par.specs.FinalScores.{final_score}
use Rattle.par.specs.ParContracts.{as_printed}
use Rattle.par.proofs.ListLaws.{Listed}
use Rattle.par.proofs.listing.par_contracts.Given as goal

abbrev pub invariant-loop-place : goal.invariant-loop-place
invariant-loop-place l =
    (contracts : List Contract)
    × Listed (final_score (tricks_in l.tricks) l.vulnerable) l.par l.place contracts
    × (l.contracts.items ≡ map (as_printed (tricks_in l.tricks)) contracts)

use Rattle.std.proofs.Common.{arith}
use Rattle.std.specs.Int.{w32}
use Rattle.std.proofs.lemmas.Int.{to_z-of_z, fits_signed_from_abs}
use Rattle.par.specs.Boards.{tricks_in}
use Rattle.tournaments.proofs.ParLaws.{small_contracts}
use Rattle.tournaments.proofs.pars.par_under.Goals as goal

pub returns-clause-small : goal.returns-clause-small
returns-clause-small c =
    let score = c.par_of-score.result in
    let small = c.par_of-score.ensures.small in
    let contracts = small_contracts (tricks_in c.args.tricks.now) _ _ _ c.requires c.par_contracts.ensures in
    rw (to_z-of_z w32 score (fits_signed_from_abs w32 score (omega (arith, small)))) (small, contracts)

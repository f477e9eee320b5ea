use Rattle.par.specs.Boards.{tricks_in}
use Rattle.par.specs.FinalScores.{final_score}
use Rattle.par.specs.ParContracts.{Stands, at_level}
use Rattle.par.proofs.StepLaws.{kept}
use Rattle.par.proofs.ListLaws.{one_more_level}
use Rattle.par.proofs.listing.stands_lower.Goals as goal

pub loop-number-preserved : goal.loop-number-preserved
loop-number-preserved c =
    let final = final_score (tricks_in c.args.tricks.now) c.args.vulnerable in
    one_more_level (λ level. Stands final (kept c.args.par) (at_level c.args.contract level) → ⊥)
    c.loop-number.number c.at.result c.at.ensures c.if-stands.ensures c.loop-number.invariant

use Rattle.std.proofs.Common.{◌≡◌, suc, ◌-◌, ◌∙◌, arith}
use Rattle.par.proofs.BidLaws.{level_number-in_place}
use Rattle.par.proofs.bids.Level.at.Goals as goal

pub returns : goal.returns
returns c =
    let number : suc (c.args.number - 1) ≡ c.args.number = omega arith in
    level_number-in_place (c.args.number - 1) (omega arith) ∙ number

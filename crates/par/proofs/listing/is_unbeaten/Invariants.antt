-- No higher bid so far is better.
use Rattle.std.proofs.Common.{◌<◌}
use Rattle.std.specs.Prelude.{◌≤ℤ◌}
use Rattle.par.specs.declared.bids.Bid.{Bid}
use Rattle.par.specs.Bids.{bid_number}
use Rattle.par.specs.Boards.{tricks_in}
use Rattle.par.specs.FinalScores.{final_score}
use Rattle.par.proofs.listing.is_unbeaten.Given as goal

abbrev pub invariant-loop-number : goal.invariant-loop-number
invariant-loop-number l =
    (bid : Bid) → bid_number l.fn.contract.bid < bid_number bid → bid_number bid < l.number
    → final_score (tricks_in l.tricks) l.vulnerable (record { side = l.side; bid = bid }) ≤ℤ l.gain

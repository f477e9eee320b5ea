use Rattle.par.proofs.BidLaws.{in_order, one_bid}
use Rattle.par.proofs.laws.bids_are_in_order.Goals as goal

pub returns-clause-order : goal.returns-clause-order
returns-clause-order c = in_order

pub returns-clause-numbers : goal.returns-clause-numbers
returns-clause-numbers c = one_bid

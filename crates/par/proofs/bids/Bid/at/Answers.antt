use Rattle.par.proofs.BidLaws.{bid_number-bid_at}
use Rattle.par.proofs.bids.Bid.at.Goals as goal

pub returns : goal.returns
returns c = bid_number-bid_at c.args.number c.requires

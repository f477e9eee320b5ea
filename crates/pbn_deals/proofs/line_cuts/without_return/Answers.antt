use Rattle.std.proofs.Common.{arith, ◌-◌, length}
use Rattle.pbn_deals.proofs.CutLemmas.{return_goes, other_stays}
use Rattle.pbn_deals.proofs.line_cuts.without_return.Goals as goal

pub returns-in-len1-up : goal.returns-in-len1-up
returns-in-len1-up c = return_goes c.args.line.now (length c.args.line.now - 1) (omega arith) c.if-last-eq13.true

pub returns-in_default-2 : goal.returns-in_default-2
returns-in_default-2 c = other_stays c.args.line.now (length c.args.line.now - 1) (omega arith) c.if-last-eq13.false

use Rattle.std.proofs.Common.{rules}
use Rattle.pbn_deals.proofs.readers.Reader.take_rest.Goals as goal

pub returns : goal.returns
returns c = search rules

use Rattle.evidence.proofs.HeadLemmas.{deal_cut}
use Rattle.evidence.proofs.head_reading.read_deal.Goals as goal

pub returns : goal.returns
returns c = deal_cut c.args.text.now c.in-Some.rest.now c.cut_at.result c.in-Some.ensures c.cut_at.ensures

use Rattle.certificate_graph.proofs.LineLemmas.{claim_zero}
use Rattle.certificate_graph.proofs.line_reading.read_claim.Goals as goal

pub returns-then-need-eq0 : goal.returns-then-need-eq0
returns-then-need-eq0 c =
    claim_zero c.args.text.now _ _ _ _ _ c.in-Some.ensures c.in-Some-after_byte.ensures c.in-Some-read_len.ensures c.if-need-eq0.true

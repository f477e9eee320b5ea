use Rattle.card_evidence.proofs.LineLemmas.{line_read}
use Rattle.card_evidence.proofs.lines.read_line.Goals as goal

pub returns : goal.returns
returns c = line_read c.args.name.now c.args.text.now c.in-Some.rest.now c.cut_at.result c.in-Some.ensures c.cut_at.ensures

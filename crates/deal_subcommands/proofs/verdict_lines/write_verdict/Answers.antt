use Rattle.cards.proofs.WriteLemmas.{Writes-then}
use Rattle.deal_subcommands.proofs.verdict_lines.write_verdict.Goals as goal

pub returns : goal.returns
returns g c = Writes-then c.write_all.result _ _ c.in_ok-write_verdict_text.ensures c.write_all.ensures

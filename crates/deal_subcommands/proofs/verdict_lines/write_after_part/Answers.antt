use Rattle.std.proofs.Common.{rules}
use Rattle.cards.proofs.WriteLemmas.{Adds-none}
use Rattle.deal_subcommands.proofs.verdict_lines.write_after_part.Goals as goal

pub returns-in_default : goal.returns-in_default
returns-in_default g c = search (rules, Adds-none)

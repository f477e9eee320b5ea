use Rattle.std.proofs.Common.{rules}
use Rattle.deal_subcommands.proofs.verdict_lines.write_verdict_text.Goals as goal

pub returns-in-Err : goal.returns-in-Err
returns-in-Err g c = search rules

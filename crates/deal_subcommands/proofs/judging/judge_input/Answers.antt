use Rattle.std.proofs.Common.{rules}
use Rattle.streams.proofs.ReadLaws.{Loses-all}
use Rattle.deal_subcommands.proofs.judging.judge_input.Goals as goal

pub returns-in_err-text : goal.returns-in_err-text
returns-in_err-text g c = search rules

pub returns : goal.returns
returns g c = search (rules, Loses-all)

use Rattle.std.proofs.Common.{rules}
use Rattle.command_words.proofs.reading.deal_of.Goals as goal

pub returns-in_err-seat : goal.returns-in_err-seat
returns-in_err-seat c = search rules

pub returns-in_err-trump : goal.returns-in_err-trump
returns-in_err-trump c = search rules

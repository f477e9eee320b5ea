use Rattle.std.proofs.Common.{◌∙◌, sym, ap, option_map}
use Rattle.clap.specs.Words.{found_of, rows_of}
use Rattle.command_words.specs.Options.{numbers_of}
use Rattle.command_words.proofs.SaysLemmas.{threads_said}
use Rattle.command_words.proofs.reading.threads_of.Goals as goal

pub returns-in-Some : goal.returns-in-Some
returns-in-Some c = threads_said (rows_of (found_of c.args.said.now)) c.args.processors (numbers_of c.args.option.now) _ _ (sym c.word_of.ensures ∙ ap (option_map (λ t. t.now)) c.in-Some.is) c.number_of.ensures

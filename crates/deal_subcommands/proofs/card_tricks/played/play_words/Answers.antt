use Rattle.deal_subcommands.specs.CardTricks.Played.{at_second}
use Rattle.deal_subcommands.proofs.PlayedLemmas.{third_word}
use Rattle.deal_subcommands.proofs.card_tricks.played.play_words.Goals as goal

pub returns-in-Err-play_word : goal.returns-in-Err-play_word
returns-in-Err-play_word c = at_second c.play_word.new.trick c.in_default.ensures c.in-Err-play_word.ensures

pub returns : goal.returns
returns c =
    third_word c.args.words c.args.trick.now c.play_word.new.trick c.play_word-2.new.trick c.play_word-3.new.trick c.play_word-3.result c.in_default.ensures c.in_default-play_word.ensures c.play_word-3.ensures

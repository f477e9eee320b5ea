use Rattle.play_dialogues.proofs.WordLaws.{named_otherwise}
use Rattle.play_dialogues.proofs.cards_named.card_named.Goals as goal

pub returns-in-None : goal.returns-in-None
returns-in-None c = named_otherwise c.args.letters.now c.by_rank_first.result c.in-None.ensures c.by_rank_first.ensures

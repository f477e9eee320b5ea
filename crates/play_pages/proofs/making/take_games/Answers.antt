use Rattle.play_pages.proofs.PlayLaws.{legal_of}
use Rattle.play_pages.proofs.making.take_games.Goals as goal

pub returns-clause-legal : goal.returns-clause-legal
returns-clause-legal c = legal_of _ c.read_plays.result c.read_plays.ensures

use Rattle.recorded_plays.proofs.GamesTaken.{by_deal, by_play}
use Rattle.recorded_plays.proofs.game_texts.GameText.is_recorded.Goals as goal

pub returns-then-is_some : goal.returns-then-is_some
returns-then-is_some c = λ game is_open h. by_deal game is_open c.args.self.now h c.is_some.result c.is_some.ensures c.if-is_some.true

pub returns-else-is_some : goal.returns-else-is_some
returns-else-is_some c = λ game is_open h.
    by_play game is_open c.args.self.now h c.is_some-else-is_some.result c.is_some.result c.is_some.ensures c.if-is_some.false c.is_some-else-is_some.ensures

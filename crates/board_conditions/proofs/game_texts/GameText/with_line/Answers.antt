use Rattle.board_conditions.proofs.LinesTaken.{passed, taken}
use Rattle.board_conditions.proofs.game_texts.GameText.with_line.Goals as goal

pub returns-in-Escaped : goal.returns-in-Escaped
returns-in-Escaped c = λ pieces kind last h is.
    passed pieces c.args.line.now kind last c.args.self c.line_start.result c.in-Escaped.is (c.line_start.ensures kind last is) h

pub returns-in-OfGame : goal.returns-in-OfGame
returns-in-OfGame c = λ pieces kind last h is.
    taken pieces c.args.line.now c.in-OfGame.comment.now c.in-OfGame.rest.now kind last c.args.self c.with_pieces.result (c.in-OfGame.ensures kind last is) h c.with_pieces.ensures

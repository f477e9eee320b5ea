use Rattle.board_conditions.proofs.Named.{open_stays, others_stay}
use Rattle.board_conditions.proofs.game_texts.GameText.with.Goals as goal

pub returns-in-OpenComment : goal.returns-in-OpenComment
returns-in-OpenComment c = λ before pieces h are. open_stays c.args.piece c.in-OpenComment.field-0 before pieces c.args.self c.in-OpenComment.is h are

pub returns-in-Blanks : goal.returns-in-Blanks
returns-in-Blanks c = λ before pieces h are. others_stay c.args.piece before pieces c.args.self c.in-Blanks.is h are

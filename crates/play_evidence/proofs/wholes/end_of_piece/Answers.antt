use Rattle.play_evidence.proofs.WholeLemmas.{piece_before, piece_is_text, some_text}
use Rattle.play_evidence.proofs.wholes.end_of_piece.Goals as goal

pub returns-in-Some-clause-piece : goal.returns-in-Some-clause-piece
returns-in-Some-clause-piece c = piece_before c.args.text.now c.in-Some.place c.in-Some.ensures.0 c.in-Some.ensures.1

pub returns-in-None-clause-piece : goal.returns-in-None-clause-piece
returns-in-None-clause-piece c = piece_is_text c.args.text.now (some_text c.args.text.now c.requires) c.in-None.ensures

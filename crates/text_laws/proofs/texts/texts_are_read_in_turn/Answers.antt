use Rattle.text_laws.proofs.TextsInTurn as law
use Rattle.text_laws.proofs.texts.texts_are_read_in_turn.Goals as goal

pub returns : goal.returns
returns c = law.texts_are_read_in_turn

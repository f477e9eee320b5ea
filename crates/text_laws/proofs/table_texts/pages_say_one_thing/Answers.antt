use Rattle.text_laws.proofs.OnePage.{pages_say_one_thing}
use Rattle.text_laws.proofs.table_texts.pages_say_one_thing.Goals as goal

pub returns : goal.returns
returns c = pages_say_one_thing

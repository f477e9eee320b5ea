use Rattle.text_laws.proofs.PageBack.{table_texts_are_read}
use Rattle.text_laws.proofs.table_texts.table_texts_are_read.Goals as goal

pub returns : goal.returns
returns c = table_texts_are_read

use Rattle.cards.proofs.WriteLemmas.{Adds-none}
use Rattle.sheets.proofs.PlainTexts.{nothing-stays}
use Rattle.sheets.proofs.headings.write_title.Goals as goal

pub returns-in-None : goal.returns-in-None
returns-in-None g c = rw (c.in-None.is, nothing-stays) (Adds-none (g.S.Sink.state c.args.sink.now))

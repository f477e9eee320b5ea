use Rattle.std.proofs.Common.{ℕ, List, Some, sym, ◌∙◌, ap, subst}
use Rattle.cards.specs.Devices.{Writes, Adds}
use Rattle.cards.proofs.WriteLemmas.{Adds-none}
use Rattle.sheets.specs.CellText.{level_shown, tricks_shown}
use Rattle.sheets.proofs.CellLemmas.{level-text, tricks-text, no-text}
use Rattle.sheets.proofs.cells.CellValuesValues.write.Goals as goal

pub returns-in-Some-Level : goal.returns-in-Some-Level
returns-in-Some-Level g c =
    let t = c.tricks_of.ensures in
    subst (λ (text : List ℕ). Writes (g.S.Sink.state c.args.sink.now) (g.S.Sink.state c.write_level.new.sink) text c.write_level.result)
    (ap level_shown t.value ∙ sym (level-text c.args.self.now.tricks c.args.name.now c.cell_place.result (rw t.value at t.byte) c.cell_place.ensures
    (c.in-Some-Level.is ∙ ap (λ p. Some p) c.in-Some-Level.field-0-is)))
    c.write_level.ensures

pub returns-in-Some-Tricks : goal.returns-in-Some-Tricks
returns-in-Some-Tricks g c =
    let t = c.tricks_of-in-Some-Tricks.ensures in
    subst (λ (text : List ℕ). Writes (g.S.Sink.state c.args.sink.now) (g.S.Sink.state c.write_tricks.new.sink) text c.write_tricks.result)
    (ap tricks_shown t.value ∙ sym (tricks-text c.args.self.now.tricks c.args.name.now c.cell_place.result (rw t.value at t.byte) c.cell_place.ensures
    (c.in-Some-Tricks.is ∙ ap (λ p. Some p) c.in-Some-Tricks.field-0-is)))
    c.write_tricks.ensures

pub returns-in-None : goal.returns-in-None
returns-in-None g c =
    let device = g.S.Sink.state c.args.sink.now in
    subst (λ (text : List ℕ). Adds device device text)
    (sym (no-text c.args.self.now.tricks c.args.name.now c.cell_place.result c.cell_place.ensures c.in-None.is))
    (Adds-none device)

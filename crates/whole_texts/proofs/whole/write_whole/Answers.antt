use Rattle.std.proofs.Common.{◌++◌, false, flat_map, sym, ◌∙◌, ap, subst}
use Rattle.cards.specs.Devices.{Adds, AddsBeginning}
use Rattle.cards.proofs.DeviceLemmas.{Adds-twice}
use Rattle.cards.proofs.WriteLemmas.{AddsBeginning-stop, AddsBeginning-then, Writes-err}
use Rattle.pbn_deals.specs.Pieces.{mark_of, line_bytes, rows_of, AreLines}
use Rattle.pbn_deals.proofs.LinesOfText.{marked}
use Rattle.whole_texts.specs.WholeText.{whole_lines}
use Rattle.whole_texts.proofs.whole.write_whole.Goals as goal

pub returns-in_err-write_all-clause-writes : goal.returns-in_err-write_all-clause-writes
returns-in_err-write_all-clause-writes g c = λ written whole.
    let text = c.args.text.now in
    let start = g.S.Sink.state c.args.sink.now in
    let now = g.S.Sink.state c.write_all.new.sink in
    let mark = c.front_of.ensures (mark_of text) (marked text ∙ ap (λ l. mark_of text ++ l) (sym c.without_mark-lines.ensures.value)) in
    let lines = flat_map line_bytes (whole_lines (g.T.Results.renews_of c.args.results.now) (g.T.Results.boards_of c.args.results.now) (g.T.Results.printed_of c.args.results.now) whole.lines) in
    Writes-err c.from_residual.result _ c.from_residual.ensures.1
    (subst (λ t. AddsBeginning start now t) (sym whole.is)
    (AddsBeginning-stop lines (subst (λ m. AddsBeginning start now m) mark c.in_err-write_all.ensures)))

pub returns-in_err-write_games-clause-writes : goal.returns-in_err-write_games-clause-writes
returns-in_err-write_games-clause-writes g c = λ written whole.
    let text = c.args.text.now in
    let start = g.S.Sink.state c.args.sink.now in
    let now = g.S.Sink.state c.write_all.new.sink in
    let later = g.S.Sink.state c.write_games.new.sink in
    let mark = c.front_of.ensures (mark_of text) (marked text ∙ ap (λ l. mark_of text ++ l) (sym c.without_mark-lines.ensures.value)) in
    let read = subst (λ t. AreLines false (rows_of t) whole.lines false) (sym c.without_mark-lines.ensures.value) whole.read in
    Writes-err c.from_residual-in_err-write_games.result _ c.from_residual-in_err-write_games.ensures.1
    (subst (λ t. AddsBeginning start later t) (sym whole.is)
    (AddsBeginning-then (subst (λ m. Adds start now m) mark c.in_ok-write_all.ensures) (c.in_err-write_games.ensures whole.lines read)))

pub returns-clause-writes : goal.returns-clause-writes
returns-clause-writes g c = λ written whole.
    let text = c.args.text.now in
    let start = g.S.Sink.state c.args.sink.now in
    let now = g.S.Sink.state c.write_all.new.sink in
    let later = g.S.Sink.state c.write_games.new.sink in
    let mark = c.front_of.ensures (mark_of text) (marked text ∙ ap (λ l. mark_of text ++ l) (sym c.without_mark-lines.ensures.value)) in
    let read = subst (λ t. AreLines false (rows_of t) whole.lines false) (sym c.without_mark-lines.ensures.value) whole.read in
    subst (λ t. Adds start later t) (sym whole.is)
    (Adds-twice (subst (λ m. Adds start now m) mark c.in_ok-write_all.ensures) (c.in_ok-write_games.ensures whole.lines read))

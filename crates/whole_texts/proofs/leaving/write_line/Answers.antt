use Rattle.std.proofs.Common.{sym, ◌∙◌, ap, subst}
use Rattle.cards.specs.Devices.{Adds, AddsBeginning}
use Rattle.cards.proofs.DeviceLemmas.{Adds-twice}
use Rattle.cards.proofs.WriteLemmas.{Adds-none, AddsBeginning-stop, AddsBeginning-then}
use Rattle.pbn_deals.specs.Pieces.{body_of}
use Rattle.whole_texts.specs.LeftText.{kind_left, Passes}
use Rattle.whole_texts.specs.LineEnds.{last_of}
use Rattle.whole_texts.specs.OldTables.{table_behind_line}
use Rattle.whole_texts.proofs.EndsBytes.{last-append}
use Rattle.whole_texts.proofs.Gone.{stops}
use Rattle.whole_texts.proofs.LinesGo.{goes_text, stays_text}
use Rattle.whole_texts.proofs.leaving.write_line.Goals as goal

pub returns-then-is_dropped : goal.returns-then-is_dropped
returns-then-is_dropped g c = λ kind is_open h.
    let before = c.args.before in
    let device = g.S.Sink.state c.args.sink.now in
    let facts = c.line_facts-facts.ensures kind is_open h in
    let text = goes_text c.args.renews c.args.drops_counts before.in_table is_open kind c.args.row.end.now c.line_facts-facts.result facts c.if-is_dropped.ensures in (
      subst (λ t. Adds device device t) (sym text) (Adds-none device),
      subst (λ t. Passes (last_of before.last t) is_open (table_behind_line c.args.renews before.in_table kind) c.behind.result) (sym text) (c.behind.ensures kind is_open facts),
    )

pub returns-in_err-last : goal.returns-in_err-last
returns-in_err-last g c = λ kind is_open h.
    let before = c.args.before in
    let facts = c.line_facts-facts.ensures kind is_open h in
    let text = stays_text c.args.renews c.args.drops_counts before.in_table is_open kind c.args.row.end.now c.line_facts-facts.result facts c.if-is_dropped.ensures in
    stops c.from_residual.result _ _ c.from_residual.ensures.1
    (subst (λ t. AddsBeginning (g.S.Sink.state c.args.sink.now) (g.S.Sink.state c.write_left.new.sink) t) (sym text)
    (AddsBeginning-stop c.args.row.end.now (c.in_err-last.ensures kind is_open h).0))

pub returns-in_err-write_all : goal.returns-in_err-write_all
returns-in_err-write_all g c = λ kind is_open h.
    let before = c.args.before in
    let facts = c.line_facts-facts.ensures kind is_open h in
    let text = stays_text c.args.renews c.args.drops_counts before.in_table is_open kind c.args.row.end.now c.line_facts-facts.result facts c.if-is_dropped.ensures in
    stops c.from_residual-in_err-write_all.result _ _ c.from_residual-in_err-write_all.ensures.1
    (subst (λ t. AddsBeginning (g.S.Sink.state c.args.sink.now) (g.S.Sink.state c.write_all.new.sink) t) (sym text)
    (AddsBeginning-then (c.in_ok-last.ensures kind is_open h).0 c.in_err-write_all.ensures))

pub returns : goal.returns
returns g c = λ kind is_open h.
    let before = c.args.before in
    let end = c.args.row.end.now in
    let body = body_of (kind_left c.args.renews before.in_table kind) in
    let facts = c.line_facts-facts.ensures kind is_open h in
    let text = stays_text c.args.renews c.args.drops_counts before.in_table is_open kind end c.line_facts-facts.result facts c.if-is_dropped.ensures in
    let left = c.in_ok-last.ensures kind is_open h in
    let last = c.last_of.ensures ∙ (ap (λ l. last_of l end) left.1 ∙ (sym (last-append before.last body end) ∙ ap (last_of before.last) (sym text))) in (
      subst (λ t. Adds (g.S.Sink.state c.args.sink.now) (g.S.Sink.state c.write_all.new.sink) t) (sym text) (Adds-twice left.0 c.in_ok-write_all.ensures),
      subst (λ l. Passes l is_open (table_behind_line c.args.renews before.in_table kind) c.behind-2.result) last (c.behind-2.ensures kind is_open facts),
    )

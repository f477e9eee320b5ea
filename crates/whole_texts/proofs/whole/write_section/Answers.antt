use Rattle.std.proofs.Common.{◌≡◌, ◌++◌, ap, ◌∙◌, subst}
use Rattle.cards.specs.Devices.{Writes}
use Rattle.cards.proofs.WriteLemmas.{Writes-then}
use Rattle.tables.specs.TablesText.{section_text}
use Rattle.whole_texts.specs.LineEnds.{missing_end}
use Rattle.whole_texts.specs.WholeText.{if_none}
use Rattle.whole_texts.proofs.whole.write_section.Goals as goal

pub returns : goal.returns
returns g c =
    let results = g.T.Results.printed_of c.args.results.now c.args.place in
    let start = g.S.Sink.state c.args.sink.now in
    let now = g.S.Sink.state c.write_all.new.sink in
    let later = g.S.Sink.state c.write_section.new.sink in
    let result = c.write_section.result in
    let missing = c.missing_end-missing.result.now in
    let end = c.args.deal_end.now in
    let is : missing ≡ missing_end c.args.last (if_none c.args.other.now end) = c.missing_end-missing.ensures ∙ ap (missing_end c.args.last) c.if_none.ensures in
    subst (λ m. Writes start later (m ++ section_text (if_none m end) results) result) is
    (Writes-then result later (section_text (if_none missing end) results) c.in_ok-write_all.ensures
    (subst (λ e. Writes now later (section_text e results) result) c.if_none-2.ensures c.write_section.ensures))

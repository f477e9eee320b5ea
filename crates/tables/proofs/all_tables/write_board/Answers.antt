use Rattle.std.proofs.Common.{◌∷◌, ◌++◌, []}
use Rattle.std.specs.Prelude.{codes}
use Rattle.cards.proofs.WriteLemmas.{AddsBeginning-stop, AddsBeginning-then, Writes-then, Writes-err}
use Rattle.tables.specs.ConditionTags.{conditions_text}
use Rattle.tables.specs.TablesText.{line_feed, tag_line, deal_value, section_text, board_text}
use Rattle.tables.proofs.all_tables.write_board.Goals as goal

pub returns-in_err-write_pieces : goal.returns-in_err-write_pieces
unfolding board_text
returns-in_err-write_pieces g c =
    let printed = g.T.Results.printed_of c.args.results.now c.args.place in
    let table = section_text line_feed printed ++ (10 ∷ []) in
    Writes-err c.from_residual.result _ c.from_residual.ensures.1
    (AddsBeginning-stop (tag_line (codes "Deal") (deal_value c.args.board.now.deal) ++ (conditions_text printed.par ++ table)) (rw c.as_bytes.ensures at c.in_err-write_pieces.ensures))

pub returns-in_err-write_deal : goal.returns-in_err-write_deal
unfolding board_text
returns-in_err-write_deal g c =
    let printed = g.T.Results.printed_of c.args.results.now c.args.place in
    let table = section_text line_feed printed ++ (10 ∷ []) in
    Writes-err c.from_residual-in_err-write_deal.result _ c.from_residual-in_err-write_deal.ensures.1
    (AddsBeginning-then (rw c.as_bytes.ensures at c.in_ok-write_pieces.ensures) (AddsBeginning-stop (conditions_text printed.par ++ table) c.in_err-write_deal.ensures))

pub returns-in_err-write_conditions : goal.returns-in_err-write_conditions
unfolding board_text
returns-in_err-write_conditions g c =
    let printed = g.T.Results.printed_of c.args.results.now c.args.place in
    let table = section_text line_feed printed ++ (10 ∷ []) in
    Writes-err c.from_residual-in_err-write_conditions.result _ c.from_residual-in_err-write_conditions.ensures.1
    (AddsBeginning-then (rw c.as_bytes.ensures at c.in_ok-write_pieces.ensures) (AddsBeginning-then c.in_ok-write_deal.ensures (AddsBeginning-stop table (rw c.par.ensures.value at c.in_err-write_conditions.ensures))))

pub returns-in_err-write_section : goal.returns-in_err-write_section
unfolding board_text
returns-in_err-write_section g c =
    Writes-err c.from_residual-in_err-write_section.result _ c.from_residual-in_err-write_section.ensures.1
    (AddsBeginning-then (rw c.as_bytes.ensures at c.in_ok-write_pieces.ensures) (AddsBeginning-then c.in_ok-write_deal.ensures
    (AddsBeginning-then (rw c.par.ensures.value at c.in_ok-write_conditions.ensures) (AddsBeginning-stop (10 ∷ []) c.in_err-write_section.ensures))))

pub returns : goal.returns
unfolding board_text
returns g c =
    let last = c.write_all.result in
    Writes-then last _ _ (rw c.as_bytes.ensures at c.in_ok-write_pieces.ensures) (Writes-then last _ _ c.in_ok-write_deal.ensures
    (Writes-then last _ _ (rw c.par.ensures.value at c.in_ok-write_conditions.ensures) (Writes-then last _ _ c.in_ok-write_section.ensures c.write_all.ensures)))

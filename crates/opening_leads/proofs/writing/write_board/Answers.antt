use Rattle.std.proofs.Common.{◌++◌}
use Rattle.std.specs.Prelude.{codes}
use Rattle.cards.proofs.WriteLemmas.{AddsBeginning-stop, AddsBeginning-then, Writes-then, Writes-err}
use Rattle.tables.specs.TablesText.{tag_line, deal_value}
use Rattle.opening_leads.specs.Tasks.{leads_in}
use Rattle.opening_leads.specs.Texts.{section_text, board_text}
use Rattle.opening_leads.proofs.writing.write_board.Goals as goal

pub returns-in_err-write_name : goal.returns-in_err-write_name
unfolding board_text
returns-in_err-write_name g c =
    let leads = section_text c.args.board.now.deal (leads_in c.args.table.now c.args.place) in
    Writes-err c.from_residual.result _ c.from_residual.ensures.1
    (AddsBeginning-stop (tag_line (codes "Deal") (deal_value c.args.board.now.deal) ++ (leads ++ codes "\n")) c.in_err-write_name.ensures)

pub returns-in_err-write_deal : goal.returns-in_err-write_deal
unfolding board_text
returns-in_err-write_deal g c =
    let leads = section_text c.args.board.now.deal (leads_in c.args.table.now c.args.place) in
    Writes-err c.from_residual-in_err-write_deal.result _ c.from_residual-in_err-write_deal.ensures.1
    (AddsBeginning-then c.in_ok-write_name.ensures (AddsBeginning-stop (leads ++ codes "\n") c.in_err-write_deal.ensures))

pub returns-in_err-write_section : goal.returns-in_err-write_section
unfolding board_text
returns-in_err-write_section g c =
    Writes-err c.from_residual-in_err-write_section.result _ c.from_residual-in_err-write_section.ensures.1
    (AddsBeginning-then c.in_ok-write_name.ensures (AddsBeginning-then c.in_ok-write_deal.ensures (AddsBeginning-stop (codes "\n") c.in_err-write_section.ensures)))

pub returns : goal.returns
unfolding board_text
returns g c =
    let last = c.write_all.result in
    Writes-then last _ _ c.in_ok-write_name.ensures
    (Writes-then last _ _ c.in_ok-write_deal.ensures (Writes-then last _ _ c.in_ok-write_section.ensures c.write_all.ensures))

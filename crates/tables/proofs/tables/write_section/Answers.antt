use Rattle.cards.proofs.WriteLemmas.{AddsBeginning-stop, Writes-then, Writes-err}
use Rattle.tables.specs.TablesText.{table_text, section_text}
use Rattle.tables.proofs.tables.write_section.Goals as goal

pub returns-in_err-write_par : goal.returns-in_err-write_par
unfolding section_text
returns-in_err-write_par g c =
    let results = (g.T.Results.printed_of c.args.results.now c.args.board).results in
    Writes-err c.from_residual.result _ c.from_residual.ensures.1 (AddsBeginning-stop (table_text c.args.end.now results) (rw c.par.ensures.value at c.in_err-write_par.ensures))

pub returns : goal.returns
unfolding section_text
returns g c = Writes-then c.write_table.result _ _ (rw c.par.ensures.value at c.in_ok-write_par.ensures) c.write_table.ensures

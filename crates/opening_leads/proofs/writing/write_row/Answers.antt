use Rattle.std.proofs.Common.{◌++◌}
use Rattle.std.specs.Prelude.{codes}
use Rattle.cards.proofs.WriteLemmas.{AddsBeginning-stop, AddsBeginning-then, Writes-then, Writes-err}
use Rattle.card_values.specs.Texts.{groups_text}
use Rattle.opening_leads.specs.Texts.{row_text}
use Rattle.opening_leads.proofs.writing.write_row.Goals as goal

pub returns-in_err-write_all-2 : goal.returns-in_err-write_all-2
unfolding row_text
returns-in_err-write_all-2 g c =
    let declarer = rw (c.as_bytes.ensures.value, c.letter.ensures) at c.in_ok-write_all.ensures in
    let letters = rw c.right_letters.ensures at c.in_err-write_all-2.ensures in
    Writes-err c.from_residual-in_err-write_all-2.result _ c.from_residual-in_err-write_all-2.ensures.1
    (AddsBeginning-then declarer (AddsBeginning-stop (groups_text c.args.values.now ++ codes "\n") letters))

pub returns-in_err-write_groups : goal.returns-in_err-write_groups
unfolding row_text
returns-in_err-write_groups g c =
    let declarer = rw (c.as_bytes.ensures.value, c.letter.ensures) at c.in_ok-write_all.ensures in
    let letters = rw c.right_letters.ensures at c.in_ok-write_all-2.ensures in
    Writes-err c.from_residual-in_err-write_groups.result _ c.from_residual-in_err-write_groups.ensures.1
    (AddsBeginning-then declarer (AddsBeginning-then letters (AddsBeginning-stop (codes "\n") c.in_err-write_groups.ensures)))

pub returns : goal.returns
unfolding row_text
returns g c =
    let declarer = rw (c.as_bytes.ensures.value, c.letter.ensures) at c.in_ok-write_all.ensures in
    let letters = rw c.right_letters.ensures at c.in_ok-write_all-2.ensures in
    let last = c.write_all-3.result in
    Writes-then last _ _ declarer (Writes-then last _ _ letters (Writes-then last _ _ c.in_ok-write_groups.ensures c.write_all-3.ensures))

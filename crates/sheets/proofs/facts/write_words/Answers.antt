use Rattle.cards.proofs.WriteLemmas.{AddsBeginning-stop, Writes-then, Writes-err}
use Rattle.sheets.specs.Facts.{vulnerable_text, words_text}
use Rattle.sheets.proofs.facts.write_words.Goals as goal

pub returns-in_err-write_dealer : goal.returns-in_err-write_dealer
unfolding words_text
returns-in_err-write_dealer g c =
    let conditions = c.args.conditions in
    Writes-err c.from_residual.result _ c.from_residual.ensures.1
    (AddsBeginning-stop (vulnerable_text conditions.vulnerable) c.in_err-write_dealer.ensures)

pub returns : goal.returns
unfolding words_text
returns g c =
    let conditions = c.args.conditions in
    Writes-then c.write_vulnerable.result _ _ c.in_ok-write_dealer.ensures
    (c.write_vulnerable.ensures)

use Rattle.std.proofs.Common.{◌++◌}
use Rattle.cards.proofs.WriteLemmas.{AddsBeginning-stop, AddsBeginning-then, Writes-then, Writes-err}
use Rattle.sheets.specs.Facts.{words_text, seats_text, facts_text}
use Rattle.sheets.specs.declared.templates.TheConstants.{COMPASS, HANDS}
use Rattle.sheets.proofs.facts.write_facts.Goals as goal

pub returns-in_err-write_all : goal.returns-in_err-write_all
unfolding facts_text
returns-in_err-write_all g c =
    let conditions = c.args.conditions in
    Writes-err c.from_residual.result _ c.from_residual.ensures.1
    (AddsBeginning-stop (words_text conditions ++ (COMPASS.now ++ (seats_text conditions ++ (HANDS.now)))) c.in_err-write_all.ensures)

pub returns-in_err-write_words : goal.returns-in_err-write_words
unfolding facts_text
returns-in_err-write_words g c =
    let conditions = c.args.conditions in
    Writes-err c.from_residual-in_err-write_words.result _ c.from_residual-in_err-write_words.ensures.1
    (AddsBeginning-then c.in_ok-write_all.ensures
    (AddsBeginning-stop (COMPASS.now ++ (seats_text conditions ++ (HANDS.now))) c.in_err-write_words.ensures))

pub returns-in_err-write_all-2 : goal.returns-in_err-write_all-2
unfolding facts_text
returns-in_err-write_all-2 g c =
    let conditions = c.args.conditions in
    Writes-err c.from_residual-in_err-write_all-2.result _ c.from_residual-in_err-write_all-2.ensures.1
    (AddsBeginning-then c.in_ok-write_all.ensures
    (AddsBeginning-then c.in_ok-write_words.ensures
    (AddsBeginning-stop (seats_text conditions ++ (HANDS.now)) c.in_err-write_all-2.ensures)))

pub returns-in_err-write_seats : goal.returns-in_err-write_seats
unfolding facts_text
returns-in_err-write_seats g c =
    let conditions = c.args.conditions in
    Writes-err c.from_residual-in_err-write_seats.result _ c.from_residual-in_err-write_seats.ensures.1
    (AddsBeginning-then c.in_ok-write_all.ensures
    (AddsBeginning-then c.in_ok-write_words.ensures
    (AddsBeginning-then c.in_ok-write_all-2.ensures
    (AddsBeginning-stop (HANDS.now) c.in_err-write_seats.ensures))))

pub returns : goal.returns
unfolding facts_text
returns g c =
    let conditions = c.args.conditions in
    Writes-then c.write_all-3.result _ _ c.in_ok-write_all.ensures
    (Writes-then c.write_all-3.result _ _ c.in_ok-write_words.ensures
    (Writes-then c.write_all-3.result _ _ c.in_ok-write_all-2.ensures
    (Writes-then c.write_all-3.result _ _ c.in_ok-write_seats.ensures
    (c.write_all-3.ensures))))

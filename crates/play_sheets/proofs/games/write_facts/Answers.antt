use Rattle.cards.proofs.WriteLemmas.{AddsBeginning-stop, AddsBeginning-then, Writes-then, Writes-err}
use Rattle.play_sheets.specs.Games.{facts_text}
use Rattle.play_sheets.proofs.games.write_facts.Goals as goal

pub returns-in_err-write_all : goal.returns-in_err-write_all
unfolding facts_text
returns-in_err-write_all g c =
    Writes-err c.from_residual.result _ c.from_residual.ensures.1
    (AddsBeginning-stop _ c.in_err-write_all.ensures)

pub returns-in_err-write_words : goal.returns-in_err-write_words
unfolding facts_text
returns-in_err-write_words g c =
    Writes-err c.from_residual-in_err-write_words.result _ c.from_residual-in_err-write_words.ensures.1
    (AddsBeginning-then c.in_ok-write_all.ensures (AddsBeginning-stop _ c.in_err-write_words.ensures))

pub returns-in_err-write_all-2 : goal.returns-in_err-write_all-2
unfolding facts_text
returns-in_err-write_all-2 g c =
    Writes-err c.from_residual-in_err-write_all-2.result _ c.from_residual-in_err-write_all-2.ensures.1
    (AddsBeginning-then c.in_ok-write_all.ensures (AddsBeginning-then c.in_ok-write_words.ensures (AddsBeginning-stop _ c.in_err-write_all-2.ensures)))

pub returns-in_err-write_seats : goal.returns-in_err-write_seats
unfolding facts_text
returns-in_err-write_seats g c =
    Writes-err c.from_residual-in_err-write_seats.result _ c.from_residual-in_err-write_seats.ensures.1
    (AddsBeginning-then c.in_ok-write_all.ensures (AddsBeginning-then c.in_ok-write_words.ensures (AddsBeginning-then c.in_ok-write_all-2.ensures (AddsBeginning-stop _ c.in_err-write_seats.ensures))))

pub returns : goal.returns
unfolding facts_text
returns g c =
    let last = c.write_all-3.result in
    Writes-then last _ _ c.in_ok-write_all.ensures (Writes-then last _ _ c.in_ok-write_words.ensures (Writes-then last _ _ c.in_ok-write_all-2.ensures (Writes-then last _ _ c.in_ok-write_seats.ensures c.write_all-3.ensures)))

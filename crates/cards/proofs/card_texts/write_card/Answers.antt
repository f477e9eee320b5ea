use Rattle.cards.proofs.WriteLemmas.{AddsBeginning-stop, AddsBeginning-then, Writes-then, Writes-err}
use Rattle.cards.proofs.card_texts.write_card.Goals as goal

pub returns-in_err-write_all-2 : goal.returns-in_err-write_all-2
returns-in_err-write_all-2 g c =
    let suit = rw c.letter.ensures at (rw c.as_bytes.ensures.value at c.in_err-write_all-2.ensures) in
    Writes-err c.from_residual-in_err-write_all-2.result _ c.from_residual-in_err-write_all-2.ensures.1
    (AddsBeginning-then c.in_ok-write_all.ensures (AddsBeginning-stop _ suit))

pub returns : goal.returns
returns g c =
    let suit = rw c.letter.ensures at (rw c.as_bytes.ensures.value at c.in_ok-write_all-2.ensures) in
    let rank = rw c.letter-2.ensures at (rw c.as_bytes-2.ensures.value at c.write_all-3.ensures) in
    Writes-then c.write_all-3.result _ _ c.in_ok-write_all.ensures (Writes-then c.write_all-3.result _ _ suit rank)

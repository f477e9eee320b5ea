use Rattle.cards.proofs.WriteLemmas.{Writes-then}
use Rattle.par.proofs.texts.write_bid.Goals as goal

pub returns : goal.returns
returns g c =
    let level = rw c.number.ensures.number at c.in_ok-write_number.ensures in
    let letters = rw c.letters.ensures at (rw c.as_bytes.ensures.value at c.write_all.ensures) in
    Writes-then c.write_all.result _ _ level letters

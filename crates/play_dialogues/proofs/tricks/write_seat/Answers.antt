use Rattle.cards.proofs.WriteLemmas.{Writes-then}
use Rattle.play_dialogues.proofs.tricks.write_seat.Goals as goal

pub returns : goal.returns
returns g c =
    let letter = rw c.letter.ensures at (rw c.as_bytes.ensures.value at c.write_all-2.ensures) in
    Writes-then c.write_all-2.result _ _ c.in_ok-write_all.ensures letter

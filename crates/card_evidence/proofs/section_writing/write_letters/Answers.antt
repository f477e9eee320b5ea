use Rattle.cards.proofs.WriteLemmas.{Writes-then}
use Rattle.card_evidence.proofs.section_writing.write_letters.Goals as goal

pub returns : goal.returns
returns g c =
    let suit = rw (c.as_bytes.ensures.value, c.letter.ensures) at c.in_ok-write_all.ensures in
    let rank = rw (c.as_bytes-2.ensures.value, c.letter-2.ensures) at c.write_all-2.ensures in
    Writes-then c.write_all-2.result _ _ suit rank

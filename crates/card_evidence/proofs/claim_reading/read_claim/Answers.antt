use Rattle.card_evidence.specs.SectionTexts.{begun_text}
use Rattle.card_evidence.proofs.ClaimLemmas.{tricks_part, player_part}
use Rattle.card_evidence.proofs.claim_reading.read_claim.Goals as goal

pub returns-in_default-2 : goal.returns-in_default-2
returns-in_default-2 c = λ claim rest is e.
    let none = rw c.in_default-2.is at c.in_ok-player.ensures in
    none claim.player (begun_text claim.others rest) is.player
    (tricks_part claim rest c.args.text.now is e c.in-Some.card c.in-Some.rest.now c.in-Some-read_number.rest.now c.in-Some-read_number.tricks c.in-Some.ensures.1 c.in-Some-read_number.ensures).1

pub returns-in_default-3 : goal.returns-in_default-3
returns-in_default-3 c = λ claim rest is e.
    let begun = rw c.in-Some-2.is at c.in_ok-player.ensures in
    let none = rw c.in_default-3.is at c.in_ok-others.ensures in
    none claim.others rest is.others
    (player_part claim rest c.args.text.now is e c.in-Some.card c.in-Some.rest.now c.in-Some-read_number.rest.now c.in-Some-2.rest.now c.in-Some-read_number.tricks c.in-Some-2.player
    c.in-Some.ensures.1 c.in-Some-read_number.ensures begun).1

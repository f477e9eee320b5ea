use Rattle.std.proofs.Common.{codes}
use Rattle.std.specs.Prelude.{⊤}
use Rattle.cards.specs.Seats.{seat_letter}
use Rattle.evidence.proofs.TitleLemmas.{seat-no_end}
use Rattle.card_evidence.proofs.LineLemmas.{other_word}
use Rattle.card_evidence.proofs.trick_reading.read_leader.Goals as goal

pub returns-in_default-seat_of : goal.returns-in_default-seat_of
returns-in_default-seat_of c =
    other_word (λ _. ⊤) seat_letter (λ seat any. seat-no_end seat) (codes "leader ") c.args.text.now c.in-Some.word.now c.in-Some.rest.now c.in-Some.ensures (λ seat any. c.in_default-seat_of.ensures seat)

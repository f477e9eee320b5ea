use Rattle.std.proofs.Common.{IsTrue, ◌↔◌, refl}
use Rattle.cards.specs.Seats.{next_of}
use Rattle.patterns.proofs.SeatLaws.{told_alike, and_then, and_else}
use Rattle.pattern_step.proofs.TurnLaws.{legal_in_turn}
use Rattle.pattern_step.proofs.legality.are_legal.Goals as goal
use Rattle.pattern_step.proofs.legality.are_legal.Goals.{then-is_legal, else-is_legal, then-is_legal-2, else-is_legal-2}

pub returns-then-is_legal-3 : goal.returns-then-is_legal-3
returns-then-is_legal-3 c =
    let two : IsTrue c.if-is_legal.value ↔ (_ × _) = elim c.if-is_legal.branch [
      | then-is_legal w ↦ and_then c.is_legal.ensures w.is_legal-then-is_legal.ensures w.if-is_legal.true w.value-is
      | else-is_legal w ↦ and_else c.is_legal.ensures w.if-is_legal.false w.value-is
    ] in
    let three : IsTrue c.if-is_legal-2.value ↔ (_ × _) = elim c.if-is_legal-2.branch [
      | then-is_legal-2 w ↦ and_then two w.is_legal-then-is_legal-2.ensures w.if-is_legal-2.true w.value-is
      | else-is_legal-2 w ↦ and_else two w.if-is_legal-2.false w.value-is
    ] in
    told_alike (and_then three c.is_legal-then-is_legal-3.ensures c.if-is_legal-3.true refl)
    (legal_in_turn c.args.pattern.now c.args.leader c.next-second.result c.next-third.result c.next.result c.suit.result c.args.cards.now c.told-cards
    c.next-second.ensures c.next-third.ensures c.next.ensures c.suit.ensures)

pub returns-else-is_legal-3 : goal.returns-else-is_legal-3
returns-else-is_legal-3 c =
    let two : IsTrue c.if-is_legal.value ↔ (_ × _) = elim c.if-is_legal.branch [
      | then-is_legal w ↦ and_then c.is_legal.ensures w.is_legal-then-is_legal.ensures w.if-is_legal.true w.value-is
      | else-is_legal w ↦ and_else c.is_legal.ensures w.if-is_legal.false w.value-is
    ] in
    let three : IsTrue c.if-is_legal-2.value ↔ (_ × _) = elim c.if-is_legal-2.branch [
      | then-is_legal-2 w ↦ and_then two w.is_legal-then-is_legal-2.ensures w.if-is_legal-2.true w.value-is
      | else-is_legal-2 w ↦ and_else two w.if-is_legal-2.false w.value-is
    ] in
    told_alike (and_else three c.if-is_legal-3.false refl)
    (legal_in_turn c.args.pattern.now c.args.leader c.next-second.result c.next-third.result (next_of c.next-third.result) c.suit.result c.args.cards.now c.told-cards
    c.next-second.ensures c.next-third.ensures refl c.suit.ensures)

use Rattle.std.proofs.Common.{IsTrue, ◌↔◌, refl}
use Rattle.patterns.proofs.SeatLaws.{all_suits, told_alike, and_then, and_else}
use Rattle.patterns.proofs.shape_words.ShapeWords.matches.Goals as goal
use Rattle.patterns.proofs.shape_words.ShapeWords.matches.Goals.{then-matches_suit, else-matches_suit, then-matches_suit-2, else-matches_suit-2}

pub returns-then-matches_suit-3 : goal.returns-then-matches_suit-3
returns-then-matches_suit-3 c =
    let two : IsTrue c.if-matches_suit.value ↔ (_ × _) = elim c.if-matches_suit.branch [
      | then-matches_suit w ↦ and_then c.matches_suit.ensures w.matches_suit-then-matches_suit.ensures w.if-matches_suit.true w.value-is
      | else-matches_suit w ↦ and_else c.matches_suit.ensures w.if-matches_suit.false w.value-is
    ] in
    let three : IsTrue c.if-matches_suit-2.value ↔ (_ × _) = elim c.if-matches_suit-2.branch [
      | then-matches_suit-2 w ↦ and_then two w.matches_suit-then-matches_suit-2.ensures w.if-matches_suit-2.true w.value-is
      | else-matches_suit-2 w ↦ and_else two w.if-matches_suit-2.false w.value-is
    ] in
    (told_alike (and_then three c.matches_suit-then-matches_suit-3.ensures c.if-matches_suit-3.true refl) (all_suits _))

pub returns-else-matches_suit-3 : goal.returns-else-matches_suit-3
returns-else-matches_suit-3 c =
    let two : IsTrue c.if-matches_suit.value ↔ (_ × _) = elim c.if-matches_suit.branch [
      | then-matches_suit w ↦ and_then c.matches_suit.ensures w.matches_suit-then-matches_suit.ensures w.if-matches_suit.true w.value-is
      | else-matches_suit w ↦ and_else c.matches_suit.ensures w.if-matches_suit.false w.value-is
    ] in
    let three : IsTrue c.if-matches_suit-2.value ↔ (_ × _) = elim c.if-matches_suit-2.branch [
      | then-matches_suit-2 w ↦ and_then two w.matches_suit-then-matches_suit-2.ensures w.if-matches_suit-2.true w.value-is
      | else-matches_suit-2 w ↦ and_else two w.if-matches_suit-2.false w.value-is
    ] in
    (told_alike (and_else three c.if-matches_suit-3.false refl) (all_suits _))

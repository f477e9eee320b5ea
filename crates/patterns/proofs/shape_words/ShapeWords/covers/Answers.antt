use Rattle.std.proofs.Common.{IsTrue, ◌↔◌, refl}
use Rattle.patterns.proofs.SeatLaws.{all_suits, told_alike, and_then, and_else}
use Rattle.patterns.proofs.shape_words.ShapeWords.covers.Goals as goal
use Rattle.patterns.proofs.shape_words.ShapeWords.covers.Goals.{then-covers_suit, else-covers_suit, then-covers_suit-2, else-covers_suit-2}

pub returns-then-covers_suit-3 : goal.returns-then-covers_suit-3
returns-then-covers_suit-3 c =
    let two : IsTrue c.if-covers_suit.value ↔ (_ × _) = elim c.if-covers_suit.branch [
      | then-covers_suit w ↦ and_then c.covers_suit.ensures w.covers_suit-then-covers_suit.ensures w.if-covers_suit.true w.value-is
      | else-covers_suit w ↦ and_else c.covers_suit.ensures w.if-covers_suit.false w.value-is
    ] in
    let three : IsTrue c.if-covers_suit-2.value ↔ (_ × _) = elim c.if-covers_suit-2.branch [
      | then-covers_suit-2 w ↦ and_then two w.covers_suit-then-covers_suit-2.ensures w.if-covers_suit-2.true w.value-is
      | else-covers_suit-2 w ↦ and_else two w.if-covers_suit-2.false w.value-is
    ] in
    (told_alike (and_then three c.covers_suit-then-covers_suit-3.ensures c.if-covers_suit-3.true refl) (all_suits _))

pub returns-else-covers_suit-3 : goal.returns-else-covers_suit-3
returns-else-covers_suit-3 c =
    let two : IsTrue c.if-covers_suit.value ↔ (_ × _) = elim c.if-covers_suit.branch [
      | then-covers_suit w ↦ and_then c.covers_suit.ensures w.covers_suit-then-covers_suit.ensures w.if-covers_suit.true w.value-is
      | else-covers_suit w ↦ and_else c.covers_suit.ensures w.if-covers_suit.false w.value-is
    ] in
    let three : IsTrue c.if-covers_suit-2.value ↔ (_ × _) = elim c.if-covers_suit-2.branch [
      | then-covers_suit-2 w ↦ and_then two w.covers_suit-then-covers_suit-2.ensures w.if-covers_suit-2.true w.value-is
      | else-covers_suit-2 w ↦ and_else two w.if-covers_suit-2.false w.value-is
    ] in
    (told_alike (and_else three c.if-covers_suit-3.false refl) (all_suits _))

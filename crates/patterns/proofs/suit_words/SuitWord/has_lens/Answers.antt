use Rattle.std.proofs.Common.{IsTrue, ◌↔◌, refl, ◌∙◌}
use Rattle.std.proofs.lemmas.Bool.{eq-eqb, ne_eqb}
use Rattle.patterns.proofs.SeatLaws.{all_seats, told_alike, and_then, and_else}
use Rattle.patterns.proofs.HoldingLaws.{told_len}
use Rattle.patterns.proofs.suit_words.SuitWord.has_lens.Goals as goal
use Rattle.patterns.proofs.suit_words.SuitWord.has_lens.Goals.{then-words-from, else-words-from, then-words-from-2, else-words-from-2}

pub returns-then-words-from-3 : goal.returns-then-words-from-3
returns-then-words-from-3 c =
    let two : IsTrue c.if-words-from.value ↔ (_ × _) = elim c.if-words-from.branch [
      | then-words-from w ↦ and_then (told_len (c.from.ensures ∙ c.len.ensures.len)) (told_len (w.from-then-words-from.ensures ∙ w.len-then-words-from.ensures.len)) (eq-eqb _ _ w.if-words-from.true) w.value-is
      | else-words-from w ↦ and_else (told_len (c.from.ensures ∙ c.len.ensures.len)) (ne_eqb _ _ w.if-words-from.false) w.value-is
    ] in
    let three : IsTrue c.if-words-from-2.value ↔ (_ × _) = elim c.if-words-from-2.branch [
      | then-words-from-2 w ↦ and_then two (told_len (w.from-then-words-from-2.ensures ∙ w.len-then-words-from-2.ensures.len)) w.if-words-from-2.true w.value-is
      | else-words-from-2 w ↦ and_else two w.if-words-from-2.false w.value-is
    ] in
    (told_alike (and_then three (told_len (c.from-then-words-from-3.ensures ∙ c.len-then-words-from-3.ensures.len)) c.if-words-from-3.true refl) (all_seats _))

pub returns-else-words-from-3 : goal.returns-else-words-from-3
returns-else-words-from-3 c =
    let two : IsTrue c.if-words-from.value ↔ (_ × _) = elim c.if-words-from.branch [
      | then-words-from w ↦ and_then (told_len (c.from.ensures ∙ c.len.ensures.len)) (told_len (w.from-then-words-from.ensures ∙ w.len-then-words-from.ensures.len)) (eq-eqb _ _ w.if-words-from.true) w.value-is
      | else-words-from w ↦ and_else (told_len (c.from.ensures ∙ c.len.ensures.len)) (ne_eqb _ _ w.if-words-from.false) w.value-is
    ] in
    let three : IsTrue c.if-words-from-2.value ↔ (_ × _) = elim c.if-words-from-2.branch [
      | then-words-from-2 w ↦ and_then two (told_len (w.from-then-words-from-2.ensures ∙ w.len-then-words-from-2.ensures.len)) w.if-words-from-2.true w.value-is
      | else-words-from-2 w ↦ and_else two w.if-words-from-2.false w.value-is
    ] in
    (told_alike (and_else three c.if-words-from-3.false refl) (all_seats _))

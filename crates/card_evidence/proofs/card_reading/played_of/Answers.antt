use Rattle.std.proofs.Common.{length, ◌∙◌, ap, arith}
use Rattle.card_evidence.proofs.CardLemmas.{played-digit, played_read, played_parts, played_count}
use Rattle.card_evidence.proofs.card_reading.played_of.Goals.{else-push_cards-via-then-push_cards+else-digit-len, else-push_cards-via-else-push_cards}
use Rattle.card_evidence.proofs.card_reading.played_of.Goals as goal

pub returns-in_default : goal.returns-in_default
returns-in_default c = λ cards few e.
    let long = ap length (e ∙ played-digit cards few) in
    omega (arith, long, c.in_default.ensures.cases)

pub returns-then-digit-len : goal.returns-then-digit-len
returns-then-digit-len c =
    let count = c.if-digit-len.true in
    let long = c.len.ensures.value in
    let fits = c.len.ensures.fits in
    played_read c.args.word.now c.in-Some.rest.now c.in-Some.digit.now c.in-Some.ensures.cases.0 _ _ c.new-cards.ensures c.if-push_cards.ensures (omega arith) (omega arith)

pub returns-else-push_cards : goal.returns-else-push_cards
returns-else-push_cards c = λ cards few e. elim c.else-push_cards.branch [
  | else-push_cards-via-then-push_cards+else-digit-len w ↦
      let count = played_count c.args.word.now c.in-Some.rest.now c.in-Some.digit.now c.in-Some.ensures.cases.0 _ _ cards c.new-cards.ensures w.if-push_cards.ensures few e in
      omega (arith, count, w.len.ensures.value, w.if-digit-len.false)
  | else-push_cards-via-else-push_cards w ↦
      let none = ap length c.new-cards.ensures in
      w.if-push_cards.ensures cards (omega arith) (played_parts c.args.word.now c.in-Some.rest.now c.in-Some.digit.now c.in-Some.ensures.cases.0 cards few e).1
]

use Rattle.std.proofs.Common.{◌++◌, length, codes, sym, ◌∙◌, ap, arith}
use Rattle.cards.specs.CardTexts.{cards_text}
use Rattle.card_evidence.proofs.LineLemmas.{one_line}
use Rattle.card_evidence.proofs.CardLemmas.{cards-lack}
use Rattle.play_evidence.proofs.play_finding.find_played.Goals as goal

pub returns-in_default : goal.returns-in_default
returns-in_default c = λ cards rest few e. c.in_default.ensures (cards_text cards) rest (cards-lack cards) e

pub returns-then-push_cards : goal.returns-then-push_cards
returns-then-push_cards c = λ cards rest few e.
    let line = c.in-Some.ensures in
    let word = one_line (codes "played") c.in-Some.word.now (cards_text cards) c.in-Some.rest.now rest line.0 (cards-lack cards) (sym line.1 ∙ e) in
    let none = ap length c.new-cards.ensures in
    let adds = c.if-push_cards.ensures cards (omega arith) word.0 in
    (adds.1 ∙ ap (λ l. l ++ cards) c.new-cards.ensures, word.1)

pub returns-else-push_cards : goal.returns-else-push_cards
returns-else-push_cards c = λ cards rest few e.
    let line = c.in-Some.ensures in
    let word = one_line (codes "played") c.in-Some.word.now (cards_text cards) c.in-Some.rest.now rest line.0 (cards-lack cards) (sym line.1 ∙ e) in
    let none = ap length c.new-cards.ensures in
    let adds = c.if-push_cards.ensures cards (omega arith) word.0 in cc

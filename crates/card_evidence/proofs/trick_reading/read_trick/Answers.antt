use Rattle.std.proofs.Common.{List, length, ◌≤◌, sym, ◌∙◌, subst}
use Rattle.cards.specs.declared.pack.Card.{Card}
use Rattle.pbn_deals.specs.DealText.{deal_text}
use Rattle.pbn_deals.proofs.DealWords.{deal-one_line}
use Rattle.evidence.proofs.HeadLemmas.{one_deal}
use Rattle.card_values.specs.Tricks.{IsInProgress}
use Rattle.card_evidence.proofs.SectionLemmas.{after_leader, after_trump, after_deal, deal_part, trump_part, leader_part, played_part, same_position}
use Rattle.card_evidence.proofs.trick_reading.read_trick.Goals as goal

pub returns-in_default : goal.returns-in_default
returns-in_default c = λ position rest is e. c.in_default.ensures (deal_text position.opening.deal) (after_deal position rest) (deal-one_line position.opening.deal) e

pub returns-in_default-2 : goal.returns-in_default-2
returns-in_default-2 c = λ position rest is e.
    let none = rw c.in_default-2.is at c.in_ok-layout.ensures in
    none position.opening.deal is.reached.layout (deal_part position rest c.args.text.now is e c.in-Some.word.now c.in-Some.rest.now c.in-Some.ensures).0

pub returns-in_default-read_trump : goal.returns-in_default-read_trump
returns-in_default-read_trump c = λ position rest is e.
    c.in_default-read_trump.ensures position.opening.trump (after_trump position rest) tt (deal_part position rest c.args.text.now is e c.in-Some.word.now c.in-Some.rest.now c.in-Some.ensures).1

pub returns-in_default-read_leader : goal.returns-in_default-read_leader
returns-in_default-read_leader c = λ position rest is e.
    c.in_default-read_leader.ensures position.opening.leader (after_leader position rest) tt
    (trump_part position rest c.args.text.now is e c.in-Some.word.now c.in-Some.rest.now c.in-Some.ensures c.in-Some-read_trump.trump c.in-Some-read_trump.rest.now c.in-Some-read_trump.ensures.1).1

pub returns-in_default-read_played : goal.returns-in_default-read_played
returns-in_default-read_played c = λ position rest is e.
    c.in_default-read_played.ensures position.history rest is.few
    (leader_part position rest c.args.text.now is e c.in-Some.word.now c.in-Some.rest.now c.in-Some.ensures c.in-Some-read_trump.trump c.in-Some-read_trump.rest.now c.in-Some-read_trump.ensures.1
    c.in-Some-read_leader.leader c.in-Some-read_leader.rest.now c.in-Some-read_leader.ensures.1).1

pub returns-in-None : goal.returns-in-None
returns-in-None c = λ position rest is e.
    let text = c.args.text.now in
    let word = c.in-Some.word.now in
    let line = c.in-Some.ensures in
    let layout = rw c.in-Some-2.is at c.in_ok-layout.ensures in
    let trump = c.in-Some-read_trump in
    let leader = c.in-Some-read_leader in
    let deal = one_deal c.in-Some-2.layout position.opening.deal layout.0 is.reached.layout (sym layout.1 ∙ (deal_part position rest text is e word c.in-Some.rest.now line).0) in
    let named = trump_part position rest text is e word c.in-Some.rest.now line trump.trump trump.rest.now trump.ensures.1 in
    let first = leader_part position rest text is e word c.in-Some.rest.now line trump.trump trump.rest.now trump.ensures.1 leader.leader leader.rest.now leader.ensures.1 in
    let few = subst (λ (l : List Card). length l ≤ 3) c.as_slice.ensures.value c.as_slice.ensures.fits in
    let cards = played_part position rest text is e word c.in-Some.rest.now line trump.trump trump.rest.now trump.ensures.1 leader.leader leader.rest.now leader.ensures.1
    c.in-Some-read_played.cards.items c.in-Some-read_played.rest.now few c.in-Some-read_played.ensures in
    c.in-None.ensures (subst IsInProgress (sym (same_position position c.in-Some-2.layout leader.leader trump.trump c.as_slice.result.now deal first.0 named.0 (c.as_slice.ensures.value ∙ cards.0))) is)

-- How a promise is kept from card to card and from trick to trick.
use Rattle.std.proofs.Common.{◌≡◌, ℕ, suc, ◌+◌, ◌-◌, ◌%◌, drop, Contains, ◌<◌, ◌≤◌, List, [], ◌∷◌, ◌++◌, length, Option, None, Some, refl, sym, ◌∙◌, ap, subst, append_assoc, length-append, arith}
use Rattle.cards.specs.declared.seats.Seat.{Seat}
use Rattle.cards.specs.declared.seats.Side.{Side}
use Rattle.cards.specs.declared.pack.Card.{Card}
use Rattle.cards.specs.Seats.{side_of}
use Rattle.cards.specs.Deal.{Deal, holder_of, size_of}
use Rattle.play_rules.specs.History.{Opening, trick_of, leader_after, tricks_of}
use Rattle.play_rules.specs.Left.{left_of}
use Rattle.play_rules.specs.Legal.{CanPlay, IsUnfinished, seat_to_play}
use Rattle.play_rules.specs.Position.{Position, IsReached, AreLegalCards}
use Rattle.play_rules.proofs.PositionLaws.{reached_on}
use Rattle.play_rules.proofs.HistoryLaws.{trick_of-append, leader_after-append, tricks_of-append}
use Rattle.play_rules.proofs.LeftLaws.{left_of-append, left_of-played, left_of-unplayed}
use Rattle.strategies.specs.Strategies.{IsTurnOf}
use Rattle.strategies.specs.Values.{opening_after}
use Rattle.strategies.proofs.Counting.{some_card_to_play}
use Rattle.strategies.proofs.Deciding.{some_legal_card}
use Rattle.strategies.proofs.Shifting.{seat_to_play-after, tricks_of-after, CanPlay-after, CanPlay-before}
use Rattle.certificate_play.specs.declared.steps.Step.{Step}
use Rattle.certificate_play.specs.Promises.{Promise, after_card, won_by, IsKept, IsSidesTurn, GoesOn}
use Rattle.certificate_play.specs.Steps.{opening_of, promise_of, IsKeptBy, IsKeptIn, IsOnCourse}

-- while a step keeps it, cards are still to be played
pub goes_on : (promise : Promise) (step : Step) → IsKeptBy promise step → GoesOn promise
goes_on promise step kept =
    omega (arith, ap length kept.history_is, length-append kept.before step.trick.items, kept.left, kept.by_node.short, kept.by_node.layout.some_cards)

-- so a promise that is kept on the way is kept at the end
pub is_kept : (promise : Promise) (step : Option Step) → IsKeptIn promise step → IsKept promise
is_kept promise None won play = won
is_kept promise (Some step) kept play = absurd (omega (arith, goes_on promise step kept, play.whole))

-- ---- the trick as a part of the play
-- a card that may be played in the play may be played in the step, and the other way
pub can_in_step : (promise : Promise) (step : Step) (card : Card) → IsKeptBy promise step → CanPlay promise.position.opening promise.position.history card → CanPlay (opening_of step) step.trick.items card
can_in_step promise step card kept can =
    subst (λ (o : Opening). CanPlay o step.trick.items card) (sym kept.opening_is)
    (CanPlay-after promise.position.opening kept.before step.trick.items card kept.whole
    (subst (λ (h : List Card). CanPlay promise.position.opening h card) kept.history_is can))

pub can_in_play : (promise : Promise) (step : Step) (card : Card) → IsKeptBy promise step → CanPlay (opening_of step) step.trick.items card → CanPlay promise.position.opening promise.position.history card
can_in_play promise step card kept can =
    subst (λ (h : List Card). CanPlay promise.position.opening h card) (sym kept.history_is)
    (CanPlay-before promise.position.opening kept.before step.trick.items card kept.whole
    (subst (λ (o : Opening). CanPlay o step.trick.items card) kept.opening_is can))

-- it is the same seat's turn
same_turn : (promise : Promise) (step : Step) → IsKeptBy promise step → seat_to_play promise.position.opening promise.position.history ≡ seat_to_play (opening_of step) step.trick.items
same_turn promise step kept =
    ap (seat_to_play promise.position.opening) kept.history_is
    ∙ (seat_to_play-after promise.position.opening kept.before step.trick.items kept.whole ∙ ap (λ (o : Opening). seat_to_play o step.trick.items) (sym kept.opening_is))

pub turn_in_step : (promise : Promise) (step : Step) → IsKeptBy promise step → IsSidesTurn promise → IsTurnOf (opening_of step) step.graph.now.side step.trick.items
turn_in_step promise step kept turn = ap side_of (sym (same_turn promise step kept)) ∙ (turn ∙ sym kept.side_is)

pub turn_in_play : (promise : Promise) (step : Step) → IsKeptBy promise step → IsTurnOf (opening_of step) step.graph.now.side step.trick.items → IsSidesTurn promise
turn_in_play promise step kept turn = ap side_of (same_turn promise step kept) ∙ (turn ∙ kept.side_is)

-- ---- one card more
-- tricks that were won stay
pub won_stays : (promise : Promise) (card : Card) → promise.tricks ≤ won_by promise → promise.tricks ≤ won_by (after_card promise card)
won_stays promise card won =
    omega (arith, won, tricks_of-append promise.side promise.position.opening.trump promise.position.opening.leader promise.position.history (card ∷ []))

-- the history with a card more
longer : (promise : Promise) (step : Step) (card : Card) (kept : IsKeptBy promise step) → promise.position.history ++ card ∷ [] ≡ kept.before ++ (step.trick.items ++ card ∷ [])
longer promise step card kept = ap (λ (h : List Card). h ++ card ∷ []) kept.history_is ∙ append_assoc kept.before step.trick.items (card ∷ [])

-- the tricks that the side wins in the step, counted in the play
same_tricks : (promise : Promise) (step : Step) (real : List Card) (kept : IsKeptBy promise step) →
    tricks_of promise.side promise.position.opening.trump promise.position.opening.leader (kept.before ++ real)
    ≡ tricks_of promise.side promise.position.opening.trump promise.position.opening.leader kept.before + tricks_of step.graph.now.side step.graph.now.trump step.node.now.lead real
same_tricks promise step real kept =
    let opening = promise.position.opening in
    let in_step : tricks_of step.graph.now.side step.graph.now.trump step.node.now.lead real ≡ tricks_of promise.side opening.trump (leader_after opening.trump opening.leader kept.before) real =
    ap (λ (s : Side). tricks_of s step.graph.now.trump step.node.now.lead real) kept.side_is ∙ ap (λ (o : Opening). tricks_of promise.side o.trump o.leader real) kept.opening_is in
    omega (arith, tricks_of-after opening promise.side kept.before real kept.whole, in_step)

whole_after : (history more : List Card) → trick_of history ≡ [] → trick_of more ≡ [] → trick_of (history ++ more) ≡ []
whole_after history more e e' = trick_of-append history more ∙ (ap (λ (t : List Card). trick_of (t ++ more)) e ∙ e')

same_opening : (deal : Deal) (opening : Opening) (leader : Seat) → opening.deal ≡ deal → opening.leader ≡ leader → opening ≡ record { deal = deal; leader = leader; trump = opening.trump }
same_opening deal opening leader e e' =
    ap (λ (d : Deal). let o : Opening = record { deal = d; leader = opening.leader; trump = opening.trump } in o) e
    ∙ ap (λ (s : Seat). let o : Opening = record { deal = deal; leader = s; trump = opening.trump } in o) e'

-- what is still to be played after more tricks
pub opening_after-append : (opening : Opening) (history more : List Card) → trick_of history ≡ [] → opening_after (opening_after opening history) more ≡ opening_after opening (history ++ more)
opening_after-append opening history more e =
    let leader : leader_after opening.trump opening.leader (history ++ more) ≡ leader_after opening.trump (leader_after opening.trump opening.leader history) more =
    leader_after-append opening.trump opening.leader history more ∙ ap (λ (t : List Card). leader_after opening.trump (leader_after opening.trump opening.leader history) (t ++ more)) e in
    same_opening (left_of opening.deal (history ++ more)) (opening_after (opening_after opening history) more) (leader_after opening.trump opening.leader (history ++ more))
    (sym (left_of-append opening.deal history more)) (sym leader)

-- What keeps the node's promise of its own play keeps the promise of the whole play.
pub kept_on : (promise : Promise) (step : Step) (card : Card) (next : Option Step) → IsKeptBy promise step → IsKeptIn (promise_of step (step.trick.items ++ card ∷ [])) next → IsKeptIn (after_card promise card) next
kept_on promise step card None kept won =
    let opening = promise.position.opening in
    let tricks : tricks_of promise.side opening.trump opening.leader (promise.position.history ++ card ∷ []) ≡ tricks_of promise.side opening.trump opening.leader (kept.before ++ (step.trick.items ++ card ∷ [])) =
    ap (tricks_of promise.side opening.trump opening.leader) (longer promise step card kept) in
    omega (arith, kept.enough, won, tricks, same_tricks promise step (step.trick.items ++ card ∷ []) kept)
kept_on promise step card (Some next) kept on =
    let opening = promise.position.opening in
    let tricks = same_tricks promise step on.before kept in
    let deal : size_of step.start ≡ size_of (opening_of step).deal = refl in
    record {
      before = kept.before ++ on.before;
      history_is = longer promise step card kept ∙ (ap (λ (h : List Card). kept.before ++ h) on.history_is ∙ sym (append_assoc kept.before on.before next.trick.items));
      whole = whole_after kept.before on.before kept.whole on.whole;
      left = omega (arith, on.left, kept.left, length-append kept.before on.before);
      opening_is = on.opening_is ∙ (ap (λ (o : Opening). opening_after o on.before) kept.opening_is ∙ opening_after-append opening kept.before on.before kept.whole);
      side_is = on.side_is ∙ kept.side_is;
      enough = omega (arith, kept.enough, on.enough, tricks);
      by_node = on.by_node;
    }

-- some legal card is listed while cards are still to be played
pub some_listed : (position : Position) (cards : List Card) → IsReached position → IsUnfinished position.opening position.history → AreLegalCards position cards → 0 < length cards
some_listed position cards reached more legal =
    let opening = position.opening in
    let held = some_card_to_play opening.trump opening.deal opening.leader position.history (size_of opening.deal) reached.layout.whole_pack reached.layout.equal_hands reached.legal more in
    let some = some_legal_card opening position.history held.0 held.1 in
    let listed = legal.all some.0 some.1 in
    omega (arith, listed.1)

-- a state after a card more
pub on_course_after : (promise : Promise) (layout : Deal) (history more : List Card) (card : Card) (step next : Option Step) → IsOnCourse promise layout history step → GoesOn promise → CanPlay promise.position.opening promise.position.history card → more ≡ history ++ card ∷ [] →
    IsKeptIn (after_card promise card) next → IsOnCourse (after_card promise card) layout more next
on_course_after promise layout history more card step next course goes can is kept = record {
  reached = reached_on promise.position card course.reached goes can;
  layout_is = course.layout_is;
  history_is = is ∙ ap (λ (h : List Card). h ++ card ∷ []) course.history_is;
  kept = kept;
}

-- a position by its parts
same_position : (position : Position) (opening : Opening) → position.opening ≡ opening → position.history ≡ [] → position ≡ record { opening = opening; history = [] }
same_position position opening e e' =
    ap (λ (o : Opening). let p : Position = record { opening = o; history = position.history } in p) e
    ∙ ap (λ (h : List Card). let p : Position = record { opening = opening; history = h } in p) e'

-- a state before the first card
pub on_course_first : (position : Position) (opening : Opening) (side : Side) (tricks : ℕ) (history : List Card) (step : Option Step) → position.opening ≡ opening → position.history ≡ [] → IsReached position → history ≡ [] →
    IsKeptIn (record { position = record { opening = opening; history = [] }; side = side; tricks = tricks }) step → IsOnCourse (record { position = position; side = side; tricks = tricks }) opening.deal history step
on_course_first position opening side tricks history step e e' reached is kept = record {
  reached = reached;
  layout_is = ap (λ (o : Opening). o.deal) (sym e);
  history_is = is ∙ sym e';
  kept = subst (λ (p : Position). IsKeptIn (record { position = p; side = side; tricks = tricks }) step) (sym (same_position position opening e e')) kept;
}

-- ---- what is seen of a position
-- the trick in progress is what is left of the history when whole tricks are cut off
pub trick_is_last : (history : List Card) → drop (length history - length history % 4) history ≡ trick_of history
unfolding trick_of
trick_is_last [] = refl
trick_is_last (a ∷ []) = refl
trick_is_last (a ∷ b ∷ []) = refl
trick_is_last (a ∷ b ∷ c ∷ []) = refl
trick_is_last (a ∷ b ∷ c ∷ d ∷ rest) =
    let four : length (a ∷ b ∷ c ∷ d ∷ rest) - length (a ∷ b ∷ c ∷ d ∷ rest) % 4 ≡ suc (suc (suc (suc (length rest - length rest % 4)))) = omega arith in
    ap (λ (n : ℕ). drop n (a ∷ b ∷ c ∷ d ∷ rest)) four ∙ trick_is_last rest

-- who still holds a card
pub played_is_gone : (promise : Promise) (layout : Deal) (history : List Card) (step : Option Step) (card : Card) → IsOnCourse promise layout history step → Contains history card → None ≡ holder_of (left_of promise.position.opening.deal promise.position.history) card
played_is_gone promise layout history step card course played =
    sym (left_of-played promise.position.opening.deal promise.position.history card (subst (λ (h : List Card). Contains h card) course.history_is played))

pub unplayed_is_held : (promise : Promise) (layout : Deal) (history : List Card) (step : Option Step) (card : Card) → IsOnCourse promise layout history step → (Contains history card → ⊥) →
    holder_of layout card ≡ holder_of (left_of promise.position.opening.deal promise.position.history) card
unplayed_is_held promise layout history step card course unplayed =
    ap (λ (d : Deal). holder_of d card) course.layout_is
    ∙ sym (left_of-unplayed promise.position.opening.deal promise.position.history card (λ played. unplayed (subst (λ (h : List Card). Contains h card) (sym course.history_is) played)))

-- Where a side gets its tricks move by move, one strategy gets them: it is put together from those after each card.
use Rattle.std.proofs.Common.{◌≡◌, ℕ, zero, suc, ◌+◌, ◌<◌, ◌≤◌, true, eqb, List, [], ◌∷◌, ◌++◌, length, None, Some, refl, sym, ◌∙◌, ap, subst, arith, inl, inr, append_assoc, append-nil, length-append}
use Rattle.std.proofs.lemmas.Bool.{cases_Bool, cases_eq, eqb-true, eq-eqb, and_parts, false≢true}
use Rattle.cards.specs.declared.seats.Side.{Side}
use Rattle.cards.specs.declared.pack.Card.{Card}
use Rattle.cards.specs.Pack.{card_number, card_at}
use Rattle.cards.proofs.PackLaws.{same_from_numbers, card_number-card_at, card_number-lt}
use Rattle.cards.specs.Seats.{side_of}
use Rattle.play_rules.specs.History.{Opening, tricks_of}
use Rattle.play_rules.specs.Legal.{CanPlay, IsLegalAfter, IsLegalHistory, IsPlay, IsUnfinished, cards_in_play, seat_to_play}
use Rattle.play_rules.proofs.PositionLaws.{IsLegalHistory-push}
use Rattle.strategies.specs.Strategies.{Strategy, is_same_history, choice_of, IsTurnOf, FollowsAfter, HasLegalChoice, IsLawfulAfter, HasTricksIn, CanWin}
use Rattle.strategies.proofs.Deciding.{decide_side, decide_play}
use Rattle.strategies.proofs.Minimax.{Gets, push-assoc}

same_history-refl : (history : List Card) → is_same_history history history ≡ true
same_history-refl [] = refl
same_history-refl (first ∷ rest) = rw (eq-eqb (card_number first) (card_number first) refl) (same_history-refl rest)

same_history-is : (one other : List Card) → is_same_history one other ≡ true → one ≡ other
same_history-is [] [] h = refl
same_history-is (a ∷ r) (b ∷ s) h =
    let parts = and_parts (eqb (card_number a) (card_number b)) (is_same_history r s) h in
    let first : a ≡ b = same_from_numbers a b (eqb-true (card_number a) (card_number b) parts.0) in
    let rest : r ≡ s = same_history-is r s parts.1 in
    cc
same_history-is [] (b ∷ s) h = absurd (false≢true h)
same_history-is (a ∷ r) [] h = absurd (false≢true h)

-- a history goes on from this one
abbrev Begins : List Card → List Card → Type 0
Begins history longer = (cards : List Card) × (longer ≡ history ++ cards)

-- the strategy has entries only for histories that go on from this one
abbrev IsWithin : Strategy → List Card → Type 0
IsWithin strategy history = (other : List Card) → (Begins history other → ⊥) → choice_of strategy other ≡ None

-- the strategies have the same cards for the histories that go on from this one
abbrev AgreeAfter : Strategy → Strategy → List Card → Type 0
AgreeAfter one other history = (cards : List Card) → choice_of one (history ++ cards) ≡ choice_of other (history ++ cards)

-- a strategy that wins, and knows of nothing else
record Plan (opening : Opening) (side : Side) (tricks : ℕ) (history : List Card) : Type 0 where
  win : CanWin opening side tricks history
  within : IsWithin win.strategy history

Begins-shorter : (history other : List Card) (card : Card) → Begins (history ++ card ∷ []) other → Begins history other
Begins-shorter history other card b = (card ∷ b.0, b.1 ∙ push-assoc history card b.0)

FollowsAfter-agree : (opening : Opening) (side : Side) (one other : Strategy) (history cards : List Card) → AgreeAfter one other history → FollowsAfter opening side one history cards → FollowsAfter opening side other history cards
FollowsAfter-agree opening side one other history [] agree follows = tt
FollowsAfter-agree opening side one other history (card ∷ cards) agree follows =
    let here : choice_of one history ≡ choice_of other history = subst (λ (h : List Card). choice_of one h ≡ choice_of other h) (append-nil history) (agree []) in (
      λ turn. sym here ∙ follows.0 turn,
      FollowsAfter-agree opening side one other (history ++ card ∷ []) cards
          (λ more. subst (λ (h : List Card). choice_of one h ≡ choice_of other h) (sym (push-assoc history card more)) (agree (card ∷ more))) follows.1,
    )

AgreeAfter-sym : (one other : Strategy) (history : List Card) → AgreeAfter one other history → AgreeAfter other one history
AgreeAfter-sym one other history agree = λ cards. sym (agree cards)

-- a strategy that agrees with a winning one wins
CanWin-agree : (opening : Opening) (side : Side) (tricks : ℕ) (history : List Card) (win : CanWin opening side tricks history) (other : Strategy) → AgreeAfter win.strategy other history → IsLawfulAfter opening side other history × HasTricksIn opening side tricks other history
CanWin-agree opening side tricks history win other agree = (
  λ cards legal more follows turn.
      let own = win.lawful cards legal more (FollowsAfter-agree opening side other win.strategy history cards (AgreeAfter-sym win.strategy other history agree) follows) turn in
      record { card = own.card; chosen = sym (agree cards) ∙ own.chosen; legal = own.legal },
  λ cards play follows. win.enough cards play (FollowsAfter-agree opening side other win.strategy history cards (AgreeAfter-sym win.strategy other history agree) follows),
)

Some-card : (one other : Card) → Some one ≡ Some other → one ≡ other
Some-card one other h = cc

choice_of-first : (history : List Card) (card : Card) (rest : Strategy) → choice_of (record { history = history; card = card } ∷ rest) history ≡ Some card
choice_of-first history card rest = rw (same_history-refl history) refl

choice_of-later : (history other : List Card) (card : Card) (rest : Strategy) → (history ≡ other → ⊥) → choice_of (record { history = history; card = card } ∷ rest) other ≡ choice_of rest other
choice_of-later history other card rest apart =
    elim (cases_Bool (is_same_history history other)) [
      | inl t ↦ absurd (apart (same_history-is history other t))
      | inr f ↦ rw f refl
    ]

longer-apart : (history cards : List Card) (card : Card) → history ≡ (history ++ card ∷ []) ++ cards → ⊥
longer-apart history cards card e = absurd (omega (arith, ap length e, length-append (history ++ card ∷ []) cards, length-append history (card ∷ [])))

-- the strategy that plays a card at once and goes on by another
Plan-own : (opening : Opening) (side : Side) (tricks : ℕ) (history : List Card) (card : Card) → IsUnfinished opening history → IsTurnOf opening side history → CanPlay opening history card → Plan opening side tricks (history ++ card ∷ []) → Plan opening side tricks history
Plan-own opening side tricks history card more turn can plan =
    let next = history ++ card ∷ [] in
    let strategy : Strategy = record { history = history; card = card } ∷ plan.win.strategy in
    let here : choice_of strategy history ≡ Some card = choice_of-first history card plan.win.strategy in
    let serves = CanWin-agree opening side tricks next plan.win strategy (λ cards. sym (choice_of-later history (next ++ cards) card plan.win.strategy (longer-apart history cards card))) in
    record {
      win = record {
        strategy = strategy;
        lawful = elim [
          | [] ↦ λ legal unfinished follows own. subst (λ (h : List Card). HasLegalChoice opening strategy h) (sym (append-nil history)) (record { card = card; chosen = here; legal = can })
          | first ∷ cards ↦ λ legal unfinished follows own.
              let same : first ≡ card = Some-card first card (sym (follows.0 turn) ∙ here) in
              let e : history ++ first ∷ cards ≡ next ++ cards = ap (λ (c : Card). history ++ c ∷ cards) same ∙ sym (push-assoc history card cards) in
              subst (λ (h : List Card). HasLegalChoice opening strategy h) (sym e)
              (serves.0 cards (subst (λ (h : List Card). IsLegalHistory opening h) e legal) (subst (λ (h : List Card). IsUnfinished opening h) e unfinished)
              (subst (λ (c : Card). FollowsAfter opening side strategy (history ++ c ∷ []) cards) same follows.1) (subst (λ (h : List Card). IsTurnOf opening side h) e own))
        ];
        enough = elim [
          | [] ↦ λ play follows. absurd (let w : length (history ++ []) ≡ cards_in_play opening = play.whole in omega (arith, ap length (append-nil history)))
          | first ∷ cards ↦ λ play follows.
              let same : first ≡ card = Some-card first card (sym (follows.0 turn) ∙ here) in
              let e : history ++ first ∷ cards ≡ next ++ cards = ap (λ (c : Card). history ++ c ∷ cards) same ∙ sym (push-assoc history card cards) in
              subst (λ (h : List Card). tricks ≤ tricks_of side opening.trump opening.leader h) (sym e)
              (serves.1 cards (subst (λ (h : List Card). IsPlay opening h) e play) (subst (λ (c : Card). FollowsAfter opening side strategy (history ++ c ∷ []) cards) same follows.1))
        ];
      };
      within = λ other not.
          choice_of-later history other card plan.win.strategy (λ e. not ([], sym e ∙ sym (append-nil history)))
          ∙ plan.within other (λ b. not (Begins-shorter history other card b));
    }

-- two strategies one after the other
choice_of-append_first : (one other : Strategy) (history : List Card) → choice_of other history ≡ None → choice_of (one ++ other) history ≡ choice_of one history
choice_of-append_first [] other history none = none
choice_of-append_first (choice ∷ rest) other history none =
    elim (cases_Bool (is_same_history choice.history history)) [
      | inl t ↦ rw t refl
      | inr f ↦ rw f (choice_of-append_first rest other history none)
    ]

choice_of-append_second : (one other : Strategy) (history : List Card) → choice_of one history ≡ None → choice_of (one ++ other) history ≡ choice_of other history
choice_of-append_second [] other history none = refl
choice_of-append_second (choice ∷ rest) other history none =
    elim (cases_Bool (is_same_history choice.history history)) [
      | inl t ↦ absurd (Some≢None choice.card (rw t at none))
      | inr f ↦ rw f (choice_of-append_second rest other history (rw f at none))
    ]
  where
    Some≢None : (card : Card) → Some card ≡ None → ⊥
    Some≢None card h = cc

same_next : (history one other : List Card) (a b : Card) → history ++ a ∷ one ≡ history ++ b ∷ other → a ≡ b
same_next [] one other a b e = cc
same_next (first ∷ rest) one other a b e = same_next rest one other a b (cc)

-- the histories after two different cards differ
Begins-one_card : (history : List Card) (a b : Card) (cards : List Card) → Begins (history ++ b ∷ []) ((history ++ a ∷ []) ++ cards) → a ≡ b
Begins-one_card history a b cards (more, e) = same_next history cards more a b (sym (push-assoc history a cards) ∙ (e ∙ push-assoc history b more))

-- one strategy for every card of the opponents with a number below n
record Joined (opening : Opening) (side : Side) (tricks : ℕ) (history : List Card) (n : ℕ) : Type 0 where
  strategy : Strategy
  serves :
      (card : Card) →
      card_number card < n →
      CanPlay opening history card →
      (plan : Plan opening side tricks (history ++ card ∷ [])) × AgreeAfter plan.win.strategy strategy (history ++ card ∷ [])
  away : (other : List Card) → ((card : Card) → card_number card < n → Begins (history ++ card ∷ []) other → ⊥) → choice_of strategy other ≡ None

joined : (opening : Opening) (side : Side) (tricks : ℕ) (history : List Card) → ((card : Card) → CanPlay opening history card → Plan opening side tricks (history ++ card ∷ [])) → (n : ℕ) → n ≤ 52 → Joined opening side tricks history n
joined opening side tricks history plans zero small = record { strategy = []; serves = λ card h. absurd (omega arith); away = λ other h. refl }
joined opening side tricks history plans (suc n) small =
    let before = joined opening side tricks history plans n (omega arith) in
    let last = card_at n in
    let last_number : card_number last ≡ n = card_number-card_at n (omega arith) in
    elim (decide_play opening history last) [
      | inr not ↦ record {
        strategy = before.strategy;
        serves = λ card h can. elim (cases_eq (card_number card) n) [
          | inl e ↦ absurd (not (subst (λ (c : Card). CanPlay opening history c) (same_from_numbers card last (e ∙ sym last_number)) can))
          | inr apart ↦ before.serves card (omega arith) can
        ];
        away = λ other h. before.away other (λ card lt. h card (omega arith));
      }
      | inl can_last ↦
          let plan = plans last can_last in
          let strategy = plan.win.strategy ++ before.strategy in
          record {
            strategy = strategy;
            serves = λ card h can. elim (cases_eq (card_number card) n) [
              | inl e ↦
                  let same : last ≡ card = same_from_numbers last card (last_number ∙ sym e) in
                  subst (λ (c : Card). (p : Plan opening side tricks (history ++ c ∷ [])) × AgreeAfter p.win.strategy strategy (history ++ c ∷ [])) same (
                    plan,
                    λ cards. sym (choice_of-append_first plan.win.strategy before.strategy ((history ++ last ∷ []) ++ cards)
                        (before.away ((history ++ last ∷ []) ++ cards) (λ other lt b. absurd (omega (arith, last_number, ap card_number (Begins-one_card history last other cards b)))))),
                  )
              | inr apart ↦
                  let earlier = before.serves card (omega arith) can in (
                    earlier.0,
                    λ cards. earlier.1 cards ∙ sym (choice_of-append_second plan.win.strategy before.strategy ((history ++ card ∷ []) ++ cards)
                        (plan.within ((history ++ card ∷ []) ++ cards) (λ b. apart (ap card_number (Begins-one_card history card last cards b) ∙ last_number)))),
                  )
            ];
            away = λ other h.
                choice_of-append_second plan.win.strategy before.strategy other (plan.within other (h last (omega arith)))
                ∙ before.away other (λ card lt. h card (omega arith));
          }
    ]

IsLegalAfter-split : (opening : Opening) (history one more : List Card) → IsLegalAfter opening history (one ++ more) → IsLegalAfter opening (history ++ one) more
IsLegalAfter-split opening history [] more legal = subst (λ (h : List Card). IsLegalAfter opening h more) (sym (append-nil history)) legal
IsLegalAfter-split opening history (card ∷ cards) more legal =
    subst (λ (h : List Card). IsLegalAfter opening h more) (append_assoc history (card ∷ []) cards) (IsLegalAfter-split opening (history ++ card ∷ []) cards more legal.1)

-- the strategy that waits for the opponents' card
Plan-opponents : (opening : Opening) (side : Side) (tricks : ℕ) (history : List Card) → IsUnfinished opening history → (IsTurnOf opening side history → ⊥) → ((card : Card) → CanPlay opening history card → Plan opening side tricks (history ++ card ∷ [])) → Plan opening side tricks history
Plan-opponents opening side tricks history more not plans =
    let all = joined opening side tricks history plans 52 (omega arith) in
    let strategy = all.strategy in
    let serves : (card : Card) → CanPlay opening history card → IsLawfulAfter opening side strategy (history ++ card ∷ []) × HasTricksIn opening side tricks strategy (history ++ card ∷ []) =
    λ card can. let p = all.serves card (card_number-lt card) can in CanWin-agree opening side tricks (history ++ card ∷ []) p.0.win strategy p.1 in
    record {
      win = record {
        strategy = strategy;
        lawful = elim [
          | [] ↦ λ legal unfinished follows own. absurd (not (subst (λ (h : List Card). IsTurnOf opening side h) (append-nil history) own))
          | first ∷ cards ↦ λ legal unfinished follows own.
              let can : CanPlay opening history first = (IsLegalAfter-split opening [] history (first ∷ cards) legal).0 in
              let e : history ++ first ∷ cards ≡ (history ++ first ∷ []) ++ cards = sym (push-assoc history first cards) in
              subst (λ (h : List Card). HasLegalChoice opening strategy h) (sym e)
              ((serves first can).0 cards (subst (λ (h : List Card). IsLegalHistory opening h) e legal) (subst (λ (h : List Card). IsUnfinished opening h) e unfinished) follows.1 (subst (λ (h : List Card). IsTurnOf opening side h) e own))
        ];
        enough = elim [
          | [] ↦ λ play follows. absurd (let w : length (history ++ []) ≡ cards_in_play opening = play.whole in omega (arith, ap length (append-nil history)))
          | first ∷ cards ↦ λ play follows.
              let can : CanPlay opening history first = (IsLegalAfter-split opening [] history (first ∷ cards) play.legal).0 in
              let e : history ++ first ∷ cards ≡ (history ++ first ∷ []) ++ cards = sym (push-assoc history first cards) in
              subst (λ (h : List Card). tricks ≤ tricks_of side opening.trump opening.leader h) (sym e)
              ((serves first can).1 cards (subst (λ (h : List Card). IsPlay opening h) e play) follows.1)
        ];
      };
      within = λ other h. all.away other (λ card lt b. h (Begins-shorter history other card b));
    }

-- with no card left there is nothing to choose
Plan-over : (opening : Opening) (side : Side) (tricks : ℕ) (history : List Card) → length history ≡ cards_in_play opening → tricks ≤ tricks_of side opening.trump opening.leader history → Plan opening side tricks history
Plan-over opening side tricks history over enough = record {
  win = record {
    strategy = [];
    lawful = λ cards legal unfinished. absurd (omega (arith, length-append history cards));
    enough = elim [
      | [] ↦ λ play follows. subst (λ (h : List Card). tricks ≤ tricks_of side opening.trump opening.leader h) (sym (append-nil history)) enough
      | first ∷ cards ↦ λ play follows. absurd (let w : length (history ++ first ∷ cards) ≡ cards_in_play opening = play.whole in omega (arith, length-append history (first ∷ cards)))
    ];
  };
  within = λ other h. refl;
}

Plan-from_Gets : (opening : Opening) (side : Side) (tricks left : ℕ) (history : List Card) → length history + left ≡ cards_in_play opening → IsLegalHistory opening history → Gets opening side tricks left history → Plan opening side tricks history
Plan-from_Gets opening side tricks zero history over legal gets = Plan-over opening side tricks history (omega arith) gets
Plan-from_Gets opening side tricks (suc left) history over legal gets =
    elim (decide_side (side_of (seat_to_play opening history)) side) [
      | inl turn ↦
          let own = gets.0 turn in
          Plan-own opening side tricks history own.0 (omega arith) turn own.1
          (Plan-from_Gets opening side tricks left (history ++ own.0 ∷ []) (omega (arith, length-append history (own.0 ∷ []))) (IsLegalHistory-push opening history own.0 legal own.1) own.2)
      | inr not ↦
          Plan-opponents opening side tricks history (omega arith) not
          (λ card can. Plan-from_Gets opening side tricks left (history ++ card ∷ []) (omega (arith, length-append history (card ∷ []))) (IsLegalHistory-push opening history card legal can) (gets.1 not card can))
    ]

pub CanWin-from_Gets : (opening : Opening) (side : Side) (tricks left : ℕ) (history : List Card) → length history + left ≡ cards_in_play opening → IsLegalHistory opening history → Gets opening side tricks left history → CanWin opening side tricks history
CanWin-from_Gets opening side tricks left history over legal gets = (Plan-from_Gets opening side tricks left history over legal gets).win

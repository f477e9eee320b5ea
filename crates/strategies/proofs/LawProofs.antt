-- The laws of "can win".
use Rattle.std.proofs.Common.{◌≡◌, ℕ, zero, suc, ◌+◌, ◌-◌, ◌≤◌, List, [], ◌∷◌, ◌++◌, length, sym, ◌∙◌, ap, subst, arith, append_assoc, append-nil, length-append}
use Rattle.cards.specs.declared.seats.Seat.TheVariants.{North}
use Rattle.cards.specs.declared.seats.Side.{Side}
use Rattle.cards.specs.declared.pack.Card.{Card}
use Rattle.cards.specs.Seats.{side_of}
use Rattle.cards.specs.Deal.{size_of, IsLayout}
use Rattle.play_rules.specs.History.{Opening, trick_of, tricks_of}
use Rattle.play_rules.proofs.HistoryLaws.{tricks_of-append, length-trick_of}
use Rattle.play_rules.specs.Legal.{CanPlay, IsLegalHistory, IsUnfinished, cards_in_play}
use Rattle.play_rules.proofs.PositionLaws.{IsLegalHistory-push}
use Rattle.strategies.specs.Strategies.{CanWin}
use Rattle.strategies.specs.Values.{opening_after}
use Rattle.strategies.specs.Laws.{WinsByOwnCard, WinsAgainstEachCard, WinsTheRest, WinsNothing, WinsWhatIsWon, WinsFewer, ShareTheTricks}
use Rattle.strategies.proofs.Shifting.{seat_to_play-after, tricks_of-after, CanPlay-after, CanPlay-before}
use Rattle.strategies.proofs.Counting.{legal-within, tricks-add_up, count_of-left_of, IsLayout-after, some_card_to_play}
use Rattle.strategies.proofs.Deciding.{some_legal_card}
use Rattle.strategies.proofs.Minimax.{Gets, Gets-from_CanWin, CanWin-follow, own_choice}
use Rattle.strategies.proofs.Planning.{CanWin-from_Gets}

-- the cards that are still to be played, one fewer after a card
left_of_play : (opening : Opening) (history : List Card) → IsUnfinished opening history → (left : ℕ) × (length history + suc left ≡ cards_in_play opening)
left_of_play opening history more = (cards_in_play opening - length history - 1, omega arith)

Gets-next : (opening : Opening) (side : Side) (tricks left : ℕ) (history : List Card) (card : Card) → length history + suc left ≡ cards_in_play opening → IsLegalHistory opening history → CanPlay opening history card → CanWin opening side tricks (history ++ card ∷ []) → Gets opening side tricks left (history ++ card ∷ [])
Gets-next opening side tricks left history card whole legal can win =
    Gets-from_CanWin opening side tricks left (history ++ card ∷ []) (omega (arith, length-append history (card ∷ []))) (IsLegalHistory-push opening history card legal can) win

pub by_own_card : WinsByOwnCard
by_own_card opening side tricks history layout legal more turn = (
  λ win.
      let own = own_choice opening side tricks history win legal more turn in
      (own.card, own.legal, CanWin-follow opening side tricks history own.card win (λ _. own.chosen)),
  λ (card, can, win).
      let rest = left_of_play opening history more in
      CanWin-from_Gets opening side tricks (suc rest.0) history rest.1 legal
      (λ _. (card, can, Gets-next opening side tricks rest.0 history card rest.1 legal can win), λ not. absurd (not turn)),
)

pub against_each_card : WinsAgainstEachCard
against_each_card opening side tricks history layout legal more not = (
  λ win card can. CanWin-follow opening side tricks history card win (λ turn. absurd (not turn)),
  λ each.
      let rest = left_of_play opening history more in
      CanWin-from_Gets opening side tricks (suc rest.0) history rest.1 legal
      (λ turn. absurd (not turn), λ _ card can. Gets-next opening side tricks rest.0 history card rest.1 legal can (each card can)),
)

-- play after whole tricks is play from what is left
Gets-after : (opening : Opening) (side : Side) (tricks left : ℕ) (history more : List Card) → trick_of history ≡ [] → Gets opening side tricks left (history ++ more) → Gets (opening_after opening history) side (tricks - tricks_of side opening.trump opening.leader history) left more
Gets-after opening side tricks zero history more e gets = omega (arith, tricks_of-after opening side history more e)
Gets-after opening side tricks (suc left) history more e gets =
    let seat = seat_to_play-after opening history more e in (
      λ turn.
          let own = gets.0 (ap side_of seat ∙ turn) in (
            own.0,
            CanPlay-after opening history more own.0 e own.1,
            Gets-after opening side tricks left history (more ++ own.0 ∷ []) e (subst (λ (h : List Card). Gets opening side tricks left h) (append_assoc history more (own.0 ∷ [])) own.2),
          ),
      λ not card can.
          Gets-after opening side tricks left history (more ++ card ∷ []) e
          (subst (λ (h : List Card). Gets opening side tricks left h) (append_assoc history more (card ∷ []))
          (gets.1 (λ turn. not (sym (ap side_of seat) ∙ turn)) card (CanPlay-before opening history more card e can))),
    )

Gets-before : (opening : Opening) (side : Side) (tricks left : ℕ) (history more : List Card) → trick_of history ≡ [] → Gets (opening_after opening history) side (tricks - tricks_of side opening.trump opening.leader history) left more → Gets opening side tricks left (history ++ more)
Gets-before opening side tricks zero history more e gets = omega (arith, tricks_of-after opening side history more e)
Gets-before opening side tricks (suc left) history more e gets =
    let seat = seat_to_play-after opening history more e in (
      λ turn.
          let own = gets.0 (sym (ap side_of seat) ∙ turn) in (
            own.0,
            CanPlay-before opening history more own.0 e own.1,
            subst (λ (h : List Card). Gets opening side tricks left h) (sym (append_assoc history more (own.0 ∷ []))) (Gets-before opening side tricks left history (more ++ own.0 ∷ []) e own.2),
          ),
      λ not card can.
          subst (λ (h : List Card). Gets opening side tricks left h) (sym (append_assoc history more (card ∷ [])))
          (Gets-before opening side tricks left history (more ++ card ∷ []) e
          (gets.1 (λ turn. not (ap side_of seat ∙ turn)) card (CanPlay-after opening history more card e can))),
    )

pub the_rest : WinsTheRest
the_rest opening side tricks history layout legal more e =
    let left_layout = IsLayout-after opening history layout legal e more in
    let left = cards_in_play opening - length history in
    let whole : length history + left ≡ cards_in_play opening = omega arith in
    let after = opening_after opening history in
    let rest : length {A = Card} [] + left ≡ cards_in_play after = omega (arith, count_of-left_of opening.trump opening.deal opening.leader history legal e North) in
    let fewer = tricks - tricks_of side opening.trump opening.leader history in
    let nil : history ++ [] ≡ history = append-nil history in (
      left_layout,
      (
        λ win.
            CanWin-from_Gets after side fewer left [] rest tt
            (Gets-after opening side tricks left history [] e (subst (λ (h : List Card). Gets opening side tricks left h) (sym nil) (Gets-from_CanWin opening side tricks left history whole legal win))),
        λ win.
            CanWin-from_Gets opening side tricks left history whole legal
            (subst (λ (h : List Card). Gets opening side tricks left h) nil (Gets-before opening side tricks left history [] e (Gets-from_CanWin after side fewer left [] rest tt win))),
      ),
    )

tricks_of-push : (side : Side) (opening : Opening) (history : List Card) (card : Card) → tricks_of side opening.trump opening.leader history ≤ tricks_of side opening.trump opening.leader (history ++ card ∷ [])
tricks_of-push side opening history card = omega (arith, tricks_of-append side opening.trump opening.leader history (card ∷ []))

-- what is won already is won
Gets-won : (opening : Opening) (side : Side) (tricks left : ℕ) (history : List Card) → IsLayout opening.deal → length history + left ≡ cards_in_play opening → IsLegalHistory opening history → tricks ≤ tricks_of side opening.trump opening.leader history → Gets opening side tricks left history
Gets-won opening side tricks zero history layout whole legal won = won
Gets-won opening side tricks (suc left) history layout whole legal won =
    let next : (card : Card) → CanPlay opening history card → Gets opening side tricks left (history ++ card ∷ []) =
    λ card can. Gets-won opening side tricks left (history ++ card ∷ []) layout (omega (arith, length-append history (card ∷ []))) (IsLegalHistory-push opening history card legal can)
    (omega (arith, tricks_of-push side opening history card)) in (
      λ turn.
          let held = some_card_to_play opening.trump opening.deal opening.leader history (size_of opening.deal) layout.whole_pack layout.equal_hands legal (omega arith) in
          let legal_card = some_legal_card opening history held.0 held.1 in
          (legal_card.0, legal_card.1, next legal_card.0 legal_card.1),
      λ not card can. next card can,
    )

pub what_is_won : WinsWhatIsWon
what_is_won opening side tricks history layout legal won =
    let within = legal-within opening.trump opening.deal opening.leader history (size_of opening.deal) layout.equal_hands legal in
    let left = cards_in_play opening - length history in
    let whole : length history + left ≡ cards_in_play opening = omega arith in
    CanWin-from_Gets opening side tricks left history whole legal (Gets-won opening side tricks left history layout whole legal won)

pub nothing : WinsNothing
nothing opening side layout = what_is_won opening side 0 [] layout tt (omega arith)

pub fewer : WinsFewer
fewer opening side tricks less history h win = record {
  strategy = win.strategy;
  lawful = win.lawful;
  enough = λ cards play follows. omega (arith, win.enough cards play follows);
}

pub share : ShareTheTricks
share opening history play = omega (arith, tricks-add_up opening.trump opening.leader history, length-trick_of history, play.whole)

-- What a side can win is what it can win move by move.
use Rattle.std.proofs.Common.{◌≡◌, ℕ, zero, suc, ◌+◌, ◌≤◌, List, [], ◌∷◌, ◌++◌, length, Some, sym, subst, arith, append_assoc, append-nil, length-append}
use Rattle.cards.specs.declared.seats.Side.{Side}
use Rattle.cards.specs.declared.pack.Card.{Card}
use Rattle.play_rules.specs.History.{Opening, tricks_of}
use Rattle.play_rules.specs.Legal.{CanPlay, IsLegalHistory, IsPlay, IsUnfinished, cards_in_play}
use Rattle.play_rules.proofs.PositionLaws.{IsLegalHistory-push}
use Rattle.strategies.specs.Strategies.{choice_of, IsTurnOf, HasLegalChoice, CanWin}

-- the side gets this many tricks by choosing its own cards one at a time, whatever the others play; `left` counts the
-- cards that are still to be played
abbrev pub Gets : Opening → Side → ℕ → ℕ → List Card → Type 0
Gets opening side tricks zero history = tricks ≤ tricks_of side opening.trump opening.leader history
Gets opening side tricks (suc left) history =
    (IsTurnOf opening side history → (card : Card) × CanPlay opening history card × Gets opening side tricks left (history ++ card ∷ []))
    × ((IsTurnOf opening side history → ⊥) → (card : Card) → CanPlay opening history card → Gets opening side tricks left (history ++ card ∷ []))

pub push-assoc : (history : List Card) (card : Card) (cards : List Card) → (history ++ card ∷ []) ++ cards ≡ history ++ card ∷ cards
push-assoc history card cards = append_assoc history (card ∷ []) cards

-- a strategy serves on after a card that it allows
pub CanWin-follow : (opening : Opening) (side : Side) (tricks : ℕ) (history : List Card) (card : Card) (win : CanWin opening side tricks history) → (IsTurnOf opening side history → choice_of win.strategy history ≡ Some card) → CanWin opening side tricks (history ++ card ∷ [])
CanWin-follow opening side tricks history card win allowed = record {
  strategy = win.strategy;
  lawful = λ cards legal more follows turn.
      let e = push-assoc history card cards in
      subst (λ (h : List Card). HasLegalChoice opening win.strategy h) (sym e)
      (win.lawful (card ∷ cards) (subst (λ (h : List Card). IsLegalHistory opening h) e legal) (subst (λ (h : List Card). IsUnfinished opening h) e more) (allowed, follows) (subst (λ (h : List Card). IsTurnOf opening side h) e turn));
  enough = λ cards play follows.
      let e = push-assoc history card cards in
      subst (λ (h : List Card). tricks ≤ tricks_of side opening.trump opening.leader h) (sym e)
      (win.enough (card ∷ cards) (subst (λ (h : List Card). IsPlay opening h) e play) (allowed, follows));
}

-- what a strategy plays at once
pub own_choice : (opening : Opening) (side : Side) (tricks : ℕ) (history : List Card) (win : CanWin opening side tricks history) → IsLegalHistory opening history → IsUnfinished opening history → IsTurnOf opening side history → HasLegalChoice opening win.strategy history
own_choice opening side tricks history win legal more turn =
    let e : history ++ [] ≡ history = append-nil history in
    subst (λ (h : List Card). HasLegalChoice opening win.strategy h) e
    (win.lawful [] (subst (λ (h : List Card). IsLegalHistory opening h) (sym e) legal) (subst (λ (h : List Card). IsUnfinished opening h) (sym e) more) tt (subst (λ (h : List Card). IsTurnOf opening side h) (sym e) turn))

pub Gets-from_CanWin : (opening : Opening) (side : Side) (tricks left : ℕ) (history : List Card) → length history + left ≡ cards_in_play opening → IsLegalHistory opening history → CanWin opening side tricks history → Gets opening side tricks left history
Gets-from_CanWin opening side tricks zero history whole legal win =
    let e : history ++ [] ≡ history = append-nil history in
    let play : IsPlay opening history = record { legal = legal; whole = omega arith } in
    subst (λ (h : List Card). tricks ≤ tricks_of side opening.trump opening.leader h) e (win.enough [] (subst (λ (h : List Card). IsPlay opening h) (sym e) play) tt)
Gets-from_CanWin opening side tricks (suc left) history whole legal win = (
  λ turn.
      let own = own_choice opening side tricks history win legal (omega arith) turn in (
        own.card,
        own.legal,
        Gets-from_CanWin opening side tricks left (history ++ own.card ∷ []) (omega (arith, length-append history (own.card ∷ []))) (IsLegalHistory-push opening history own.card legal own.legal)
            (CanWin-follow opening side tricks history own.card win (λ _. own.chosen)),
      ),
  λ not card can.
      Gets-from_CanWin opening side tricks left (history ++ card ∷ []) (omega (arith, length-append history (card ∷ []))) (IsLegalHistory-push opening history card legal can)
      (CanWin-follow opening side tricks history card win (λ turn. absurd (not turn))),
)

-- What both sides can win fits into the tricks that there are, since their strategies can be played against each other.
use Rattle.std.proofs.Common.{◌≡◌, ℕ, zero, suc, ◌+◌, ◌-◌, ◌≤◌, List, [], ◌∷◌, ◌++◌, length, refl, arith, inl, inr, length-append}
use Rattle.cards.specs.declared.seats.Side.{Side}
use Rattle.cards.specs.declared.seats.Side.TheVariants.{NorthSouth, EastWest}
use Rattle.cards.specs.declared.pack.Card.{Card}
use Rattle.cards.specs.Seats.{side_of}
use Rattle.cards.specs.Deal.{size_of}
use Rattle.play_rules.specs.History.{Opening}
use Rattle.play_rules.proofs.HistoryLaws.{length-trick_of}
use Rattle.play_rules.specs.Legal.{IsLegalHistory, cards_in_play, seat_to_play}
use Rattle.play_rules.proofs.PositionLaws.{IsLegalHistory-push}
use Rattle.strategies.specs.Laws.{WinNoMoreThanAll}
use Rattle.strategies.proofs.Counting.{legal-within, tricks-add_up}
use Rattle.strategies.proofs.Deciding.{decide_side}
use Rattle.strategies.proofs.Minimax.{Gets, Gets-from_CanWin}

sides-apart : (side : Side) → side ≡ NorthSouth → side ≡ EastWest → ⊥
sides-apart side a b = cc

other-side : (side : Side) → (side ≡ NorthSouth → ⊥) → side ≡ EastWest
other-side NorthSouth not = absurd (not refl)
other-side EastWest not = refl

together : (opening : Opening) (one other left : ℕ) (history : List Card) → length history + left ≡ cards_in_play opening → IsLegalHistory opening history → Gets opening NorthSouth one left history → Gets opening EastWest other left history → one + other ≤ size_of opening.deal
together opening one other zero history whole legal a b =
    omega (arith, tricks-add_up opening.trump opening.leader history, length-trick_of history)
together opening one other (suc left) history whole legal a b =
    elim (decide_side (side_of (seat_to_play opening history)) NorthSouth) [
      | inl turn ↦
          let own = a.0 turn in
          together opening one other left (history ++ own.0 ∷ []) (omega (arith, length-append history (own.0 ∷ []))) (IsLegalHistory-push opening history own.0 legal own.1) own.2
          (b.1 (λ east_west. sides-apart _ turn east_west) own.0 own.1)
      | inr not ↦
          let own = b.0 (other-side _ not) in
          together opening one other left (history ++ own.0 ∷ []) (omega (arith, length-append history (own.0 ∷ []))) (IsLegalHistory-push opening history own.0 legal own.1) (a.1 not own.0 own.1)
          own.2
    ]

pub no_more_than_all : WinNoMoreThanAll
no_more_than_all opening one other history layout legal a b =
    let within = legal-within opening.trump opening.deal opening.leader history (size_of opening.deal) layout.equal_hands legal in
    let left = cards_in_play opening - length history in
    let whole : length history + left ≡ cards_in_play opening = omega arith in
    together opening one other left history whole legal (Gets-from_CanWin opening NorthSouth one left history whole legal a) (Gets-from_CanWin opening EastWest other left history whole legal b)

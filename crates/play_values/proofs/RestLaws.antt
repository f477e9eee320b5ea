-- After whole tricks, play goes on as from the layout that is left, also after some more cards.
use Rattle.std.proofs.Common.{◌≡◌, ℕ, zero, suc, ◌+◌, ◌-◌, List, [], ◌∷◌, ◌++◌, length, sym, ◌∙◌, ap, subst, arith, append_assoc, append-nil, length-append}
use Rattle.cards.specs.declared.seats.Seat.TheVariants.{North}
use Rattle.cards.specs.declared.seats.Side.{Side}
use Rattle.cards.specs.declared.pack.Card.{Card}
use Rattle.cards.specs.Seats.{side_of}
use Rattle.cards.specs.Deal.{size_of}
use Rattle.play_rules.specs.History.{Opening, trick_of}
use Rattle.play_rules.specs.Legal.{IsLegalAfter, IsLegalHistory, cards_in_play}
use Rattle.strategies.specs.Values.{opening_after}
use Rattle.strategies.proofs.Shifting.{seat_to_play-after, tricks_of-after, CanPlay-after, CanPlay-before, IsLegalAfter-after}
use Rattle.strategies.proofs.Counting.{legal-within, count_of-left_of}
use Rattle.strategies.proofs.Minimax.{Gets, Gets-from_CanWin}
use Rattle.strategies.proofs.Planning.{CanWin-from_Gets}
use Rattle.play_values.specs.Rests.{tricks_won, WinsTheRestAfter}
use Rattle.play_values.proofs.LegalLaws.{first_is_legal, rest_is_legal}

-- the cards after whole tricks are a legal history of the rest
pub later_is_legal : (opening : Opening) (history more : List Card) → IsLegalHistory opening (history ++ more) → trick_of history ≡ [] → IsLegalHistory (opening_after opening history) more
later_is_legal opening history more legal whole =
    IsLegalAfter-after opening history [] more whole
    (subst (λ (h : List Card). IsLegalAfter opening h more) (sym (append-nil history)) (rest_is_legal opening [] history more legal))

-- ---- what a side gets
gets_after : (opening : Opening) (side : Side) (tricks left : ℕ) (history more : List Card) → trick_of history ≡ [] → Gets opening side tricks left (history ++ more) →
    Gets (opening_after opening history) side (tricks - tricks_won opening side history) left more
gets_after opening side tricks zero history more whole gets = omega (arith, tricks_of-after opening side history more whole)
gets_after opening side tricks (suc left) history more whole gets =
    let seat = seat_to_play-after opening history more whole in (
      λ turn.
          let own = gets.0 (ap side_of seat ∙ turn) in (
            own.0,
            CanPlay-after opening history more own.0 whole own.1,
            gets_after opening side tricks left history (more ++ own.0 ∷ []) whole (subst (λ (h : List Card). Gets opening side tricks left h) (append_assoc history more (own.0 ∷ [])) own.2),
          ),
      λ not card can.
          gets_after opening side tricks left history (more ++ card ∷ []) whole
          (subst (λ (h : List Card). Gets opening side tricks left h) (append_assoc history more (card ∷ []))
          (gets.1 (λ turn. not (sym (ap side_of seat) ∙ turn)) card (CanPlay-before opening history more card whole can))),
    )

gets_before : (opening : Opening) (side : Side) (tricks left : ℕ) (history more : List Card) → trick_of history ≡ [] → Gets (opening_after opening history) side (tricks - tricks_won opening side history) left more →
    Gets opening side tricks left (history ++ more)
gets_before opening side tricks zero history more whole gets = omega (arith, tricks_of-after opening side history more whole)
gets_before opening side tricks (suc left) history more whole gets =
    let seat = seat_to_play-after opening history more whole in (
      λ turn.
          let own = gets.0 (sym (ap side_of seat) ∙ turn) in (
            own.0,
            CanPlay-before opening history more own.0 whole own.1,
            subst (λ (h : List Card). Gets opening side tricks left h) (sym (append_assoc history more (own.0 ∷ []))) (gets_before opening side tricks left history (more ++ own.0 ∷ []) whole own.2),
          ),
      λ not card can.
          subst (λ (h : List Card). Gets opening side tricks left h) (sym (append_assoc history more (card ∷ [])))
          (gets_before opening side tricks left history (more ++ card ∷ []) whole
          (gets.1 (λ turn. not (ap side_of seat ∙ turn)) card (CanPlay-after opening history more card whole can))),
    )

-- ---- what a side can win
pub wins_the_rest_after : WinsTheRestAfter
wins_the_rest_after opening side tricks history more layout legal whole =
    let within = legal-within opening.trump opening.deal opening.leader (history ++ more) (size_of opening.deal) layout.equal_hands legal in
    let left = cards_in_play opening - length (history ++ more) in
    let all : length (history ++ more) + left ≡ cards_in_play opening = omega (arith, within) in
    let after = opening_after opening history in
    let gone = count_of-left_of opening.trump opening.deal opening.leader history (first_is_legal opening [] history more legal) whole North in
    let rest : length more + left ≡ cards_in_play after = omega (arith, all, gone, length-append history more) in
    let later = later_is_legal opening history more legal whole in
    let fewer = tricks - tricks_won opening side history in (
      λ win. CanWin-from_Gets after side fewer left more rest later
          (gets_after opening side tricks left history more whole (Gets-from_CanWin opening side tricks left (history ++ more) all legal win)),
      λ win. CanWin-from_Gets opening side tricks left (history ++ more) all legal
          (gets_before opening side tricks left history more whole (Gets-from_CanWin after side fewer left more rest later win)),
    )

-- After whole tricks, play goes on as from the layout that is left, also after some more cards.
use Rattle.std.proofs.Common.{◌≡◌, ℕ, zero, suc, ◌+◌, ◌-◌, ◌*◌, List, [], ◌∷◌, ◌++◌, length, sym, ◌∙◌, ap, subst, arith, append_assoc, append-nil, length-append}
use Rattle.cards.specs.declared.seats.Seat.TheVariants.{North}
use Rattle.cards.specs.declared.seats.Side.{Side}
use Rattle.cards.specs.declared.seats.Side.TheVariants.{NorthSouth, EastWest}
use Rattle.cards.specs.declared.pack.Card.{Card}
use Rattle.cards.specs.Seats.{side_of, other_side}
use Rattle.cards.specs.Deal.{size_of}
use Rattle.play_rules.specs.History.{Opening, trick_of}
use Rattle.play_rules.specs.Legal.{IsLegalAfter, IsLegalHistory, cards_in_play}
use Rattle.strategies.specs.Strategies.{CanWin}
use Rattle.strategies.specs.Values.{opening_after}
use Rattle.strategies.proofs.Shifting.{seat_to_play-after, tricks_of-after, CanPlay-after, CanPlay-before, IsLegalAfter-after}
use Rattle.strategies.proofs.Counting.{legal-within, tricks-add_up, count_of-left_of}
use Rattle.strategies.proofs.Minimax.{Gets, Gets-from_CanWin}
use Rattle.strategies.proofs.Planning.{CanWin-from_Gets}
use Rattle.checker.specs.ValuesAfter.{side_to_play}
use Rattle.play_values.specs.Rests.{tricks_won}
use Rattle.play_values.proofs.LegalLaws.{first_is_legal}
use Rattle.play_values.proofs.RestLaws.{wins_the_rest_after}
use Rattle.value_laws.specs.ValuesAfter.{ValueCountsTricksWon}

-- the tricks of whole tricks are the sides' together
tricks_are_shared : (opening : Opening) (history more : List Card) → IsLegalHistory opening (history ++ more) → trick_of history ≡ [] → (side : Side) →
    size_of (opening_after opening history).deal + tricks_won opening side history + tricks_won opening (other_side side) history ≡ size_of opening.deal
tricks_are_shared opening history more legal whole side =
    go side
  where
    gone : 4 * size_of (opening_after opening history).deal + length history ≡ 4 * size_of opening.deal
    gone = count_of-left_of opening.trump opening.deal opening.leader history (first_is_legal opening [] history more legal) whole North

    won : 4 * (tricks_won opening NorthSouth history + tricks_won opening EastWest history) ≡ length history
    won = omega (arith, tricks-add_up opening.trump opening.leader history, ap length whole)

    go : (side : Side) → size_of (opening_after opening history).deal + tricks_won opening side history + tricks_won opening (other_side side) history ≡ size_of opening.deal
    go NorthSouth = omega (arith, gone, won)
    go EastWest = omega (arith, gone, won)

pub value_counts_tricks_won : ValueCountsTricksWon
value_counts_tricks_won opening history more tricks layout legal whole value = record {
  within = omega (arith, shared, value.within);
  player_wins = (wins_the_rest_after opening side (won + tricks) history more layout legal whole).1
      (subst (λ (n : ℕ). CanWin after side n more) (omega arith) (subst (λ (s : Side). CanWin after s tricks more) (sym same) value.player_wins));
  others_win = (wins_the_rest_after opening (other_side side) (size_of opening.deal - (won + tricks)) history more layout legal whole).1
      (subst (λ (n : ℕ). CanWin after (other_side side) n more) others
      (subst (λ (s : Side). CanWin after (other_side s) (size_of after.deal - tricks) more) (sym same) value.others_win));
}
  where
    after : Opening
    after = opening_after opening history

    side : Side
    side = side_to_play opening (history ++ more)

    same : side_to_play opening (history ++ more) ≡ side_to_play (opening_after opening history) more
    same = ap side_of (seat_to_play-after opening history more whole)

    won : ℕ
    won = tricks_won opening (side_to_play opening (history ++ more)) history

    shared : size_of (opening_after opening history).deal + tricks_won opening (side_to_play opening (history ++ more)) history + tricks_won opening (other_side (side_to_play opening (history ++ more))) history ≡ size_of opening.deal
    shared = tricks_are_shared opening history more legal whole (side_to_play opening (history ++ more))

    others : size_of (opening_after opening history).deal - tricks ≡ size_of opening.deal - (won + tricks) - tricks_won opening (other_side (side_to_play opening (history ++ more))) history
    others = omega (arith, shared, value.within)

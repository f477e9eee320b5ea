-- The values of cards: no two, and the value of the best.
use Rattle.std.proofs.Common.{◌-◌, [], ◌∷◌, ◌++◌, refl, arith}
use Rattle.cards.specs.Seats.{other_side}
use Rattle.cards.specs.Deal.{size_of}
use Rattle.strategies.proofs.LawProofs.{by_own_card, against_each_card, fewer}
use Rattle.checker.specs.ValuesAfter.{side_to_play}
use Rattle.checker.proofs.ValueLaws.{most}
use Rattle.value_laws.specs.CardLaws.{HasOneCardValue, BestCardIsValue}
use Rattle.card_values.proofs.BestLaws.{apart}

pub one_card_value : HasOneCardValue
one_card_value opening history card one other layout legal a b =
    let side = side_to_play opening history in
    omega (
      arith,
      most opening (history ++ card ∷ []) side one other layout legal b.within a.player_wins b.others_win,
      most opening (history ++ card ∷ []) side other one layout legal a.within b.player_wins a.others_win,
    )

pub best_is_value : BestCardIsValue
best_is_value opening history card tricks layout legal unfinished can value up_to =
    let side = side_to_play opening history in
    record {
      within = value.within;
      player_wins = (by_own_card opening side tricks history layout legal unfinished refl).1 (card, can, value.player_wins);
      others_win = (against_each_card opening (other_side side) (size_of opening.deal - tricks) history layout legal unfinished (apart side)).1
          (λ other may. let (worth, of_other, less) = up_to other may in
          fewer opening (other_side side) (size_of opening.deal - worth) (size_of opening.deal - tricks) (history ++ other ∷ []) (omega (arith, less)) of_other.others_win);
    }

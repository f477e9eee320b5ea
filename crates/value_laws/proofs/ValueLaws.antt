-- Values after some cards: no two, and the value of a contract.
use Rattle.std.proofs.Common.{◌≡◌, ℕ, ◌-◌, ◌≤◌, cond, List, [], refl, sym, ◌∙◌, ap, subst, arith}
use Rattle.cards.specs.declared.suits.Trump.{Trump}
use Rattle.cards.specs.declared.seats.Seat.{Seat}
use Rattle.cards.specs.declared.seats.Seat.TheVariants.{North, East, South, West}
use Rattle.cards.specs.declared.seats.Side.{Side}
use Rattle.cards.specs.declared.seats.Side.TheVariants.{NorthSouth, EastWest}
use Rattle.cards.specs.Seats.{next_of, side_of, other_side, is_same_side}
use Rattle.cards.specs.Deal.{Deal, size_of}
use Rattle.play_rules.specs.History.{Opening}
use Rattle.play_rules.proofs.HistoryLaws.{seat_to_play-short}
use Rattle.strategies.specs.Strategies.{CanWin}
use Rattle.strategies.specs.Values.{opening_of}
use Rattle.cards.specs.declared.pack.Card.{Card}
use Rattle.checker.specs.ValuesAfter.{IsValueAfter, side_to_play}
use Rattle.play_values.specs.PlayValues.{IsPlayValue}
use Rattle.value_laws.specs.ValuesAfter.{HasOneValueAfter, ValueIsValueAfter, PlayValueIsValueAfter}
use Rattle.checker.proofs.ValueLaws.{most}

pub one_value_after : HasOneValueAfter
one_value_after opening history one other layout legal a b =
    let side = side_to_play opening history in
    omega (
      arith,
      most opening history side one other layout legal b.within a.player_wins b.others_win,
      most opening history side other one layout legal a.within b.player_wins a.others_win,
    )

-- the defenders lead
defenders_lead : (deal : Deal) (declarer : Seat) (trump : Trump) → side_to_play (opening_of deal declarer trump) [] ≡ other_side (side_of declarer)
defenders_lead deal declarer trump = ap side_of (seat_to_play-short (opening_of deal declarer trump) [] (omega arith)) ∙ go declarer
  where
    go : (seat : Seat) → side_of (next_of seat) ≡ other_side (side_of seat)
    go North = refl
    go East = refl
    go South = refl
    go West = refl

other_again : (side : Side) → other_side (other_side side) ≡ side
other_again NorthSouth = refl
other_again EastWest = refl

pub value_is_value_after : ValueIsValueAfter
value_is_value_after deal declarer trump tricks within = (
  (λ value. record {
    within = omega arith;
    player_wins = subst (λ (s : Side). CanWin opening s (size_of deal - tricks) []) (sym lead) value.defenders_win;
    others_win = subst (λ (s : Side). CanWin opening (other_side s) (size_of deal - (size_of deal - tricks)) []) (sym lead)
        (subst (λ (s : Side). CanWin opening s (size_of deal - (size_of deal - tricks)) []) (sym (other_again (side_of declarer)))
        (subst (λ (n : ℕ). CanWin opening (side_of declarer) n []) (sym back) value.declarer_wins));
  }),
  λ value. record {
    within = within;
    declarer_wins = subst (λ (n : ℕ). CanWin opening (side_of declarer) n []) back
        (subst (λ (s : Side). CanWin opening s (size_of deal - (size_of deal - tricks)) []) (other_again (side_of declarer))
        (subst (λ (s : Side). CanWin opening (other_side s) (size_of deal - (size_of deal - tricks)) []) lead value.others_win));
    defenders_win = subst (λ (s : Side). CanWin opening s (size_of deal - tricks) []) lead value.player_wins;
  },
)
  where
    opening : Opening
    opening = opening_of deal declarer trump

    lead : side_to_play opening [] ≡ other_side (side_of declarer)
    lead = defenders_lead deal declarer trump

    back : size_of deal - (size_of deal - tricks) ≡ tricks
    back = omega (arith, within)

-- ---- the value of a play
module _ (opening : Opening) (history : List Card) (tricks : ℕ) (few : tricks ≤ size_of opening.deal) where
  back : tricks ≡ size_of opening.deal - (size_of opening.deal - tricks)
  back = omega (arith, few)

  for_player : (side declarers : Side) → side_to_play opening history ≡ side → IsPlayValue opening declarers history tricks → IsValueAfter opening history (cond (is_same_side side declarers) tricks (size_of opening.deal - tricks))
  for_player NorthSouth NorthSouth e value = record {
    within = few;
    player_wins = subst (λ (s : Side). CanWin opening s tricks history) (sym e) value.declarers_win;
    others_win = subst (λ (s : Side). CanWin opening (other_side s) (size_of opening.deal - tricks) history) (sym e) value.defenders_win;
  }
  for_player EastWest EastWest e value = record {
    within = few;
    player_wins = subst (λ (s : Side). CanWin opening s tricks history) (sym e) value.declarers_win;
    others_win = subst (λ (s : Side). CanWin opening (other_side s) (size_of opening.deal - tricks) history) (sym e) value.defenders_win;
  }
  for_player NorthSouth EastWest e value = record {
    within = omega arith;
    player_wins = subst (λ (s : Side). CanWin opening s (size_of opening.deal - tricks) history) (sym e) value.defenders_win;
    others_win = subst (λ (s : Side). CanWin opening (other_side s) (size_of opening.deal - (size_of opening.deal - tricks)) history) (sym e)
        (subst (λ (n : ℕ). CanWin opening EastWest n history) back value.declarers_win);
  }
  for_player EastWest NorthSouth e value = record {
    within = omega arith;
    player_wins = subst (λ (s : Side). CanWin opening s (size_of opening.deal - tricks) history) (sym e) value.defenders_win;
    others_win = subst (λ (s : Side). CanWin opening (other_side s) (size_of opening.deal - (size_of opening.deal - tricks)) history) (sym e)
        (subst (λ (n : ℕ). CanWin opening NorthSouth n history) back value.declarers_win);
  }

  for_declarers : (side declarers : Side) → side_to_play opening history ≡ side → IsValueAfter opening history (cond (is_same_side side declarers) tricks (size_of opening.deal - tricks)) → IsPlayValue opening declarers history tricks
  for_declarers NorthSouth NorthSouth e value = record {
    within = few;
    declarers_win = subst (λ (s : Side). CanWin opening s tricks history) e value.player_wins;
    defenders_win = subst (λ (s : Side). CanWin opening (other_side s) (size_of opening.deal - tricks) history) e value.others_win;
  }
  for_declarers EastWest EastWest e value = record {
    within = few;
    declarers_win = subst (λ (s : Side). CanWin opening s tricks history) e value.player_wins;
    defenders_win = subst (λ (s : Side). CanWin opening (other_side s) (size_of opening.deal - tricks) history) e value.others_win;
  }
  for_declarers NorthSouth EastWest e value = record {
    within = few;
    declarers_win = subst (λ (n : ℕ). CanWin opening EastWest n history) (sym back)
        (subst (λ (s : Side). CanWin opening (other_side s) (size_of opening.deal - (size_of opening.deal - tricks)) history) e value.others_win);
    defenders_win = subst (λ (s : Side). CanWin opening s (size_of opening.deal - tricks) history) e value.player_wins;
  }
  for_declarers EastWest NorthSouth e value = record {
    within = few;
    declarers_win = subst (λ (n : ℕ). CanWin opening NorthSouth n history) (sym back)
        (subst (λ (s : Side). CanWin opening (other_side s) (size_of opening.deal - (size_of opening.deal - tricks)) history) e value.others_win);
    defenders_win = subst (λ (s : Side). CanWin opening s (size_of opening.deal - tricks) history) e value.player_wins;
  }

pub play_value_is_value_after : PlayValueIsValueAfter
play_value_is_value_after opening declarers history tricks few = (
  (λ value. for_player opening history tricks few (side_to_play opening history) declarers refl value),
  λ value. for_declarers opening history tricks few (side_to_play opening history) declarers refl value,
)

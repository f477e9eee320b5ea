-- What both sides can win fits into the tricks that there are, so a layout has one value.
use Rattle.std.proofs.Common.{◌≡◌, ℕ, ◌-◌, ◌≤◌, [], sym, subst, arith}
use Rattle.cards.specs.declared.seats.Seat.TheVariants.{North, East, South, West}
use Rattle.cards.specs.declared.seats.Side.TheVariants.{NorthSouth, EastWest}
use Rattle.cards.specs.Deal.{size_of, IsLayout}
use Rattle.play_rules.specs.History.{Opening}
use Rattle.strategies.specs.Strategies.{CanWin}
use Rattle.strategies.specs.Values.{IsPlainValue, opening_of}
use Rattle.value_laws.specs.LayoutLaws.{HasOneValue, HasOnePlainValue, PlainValueIsValue}
use Rattle.strategies.proofs.UniqueProofs.{no_more_than_all}

pub one_plain_value : HasOnePlainValue
one_plain_value opening one other layout a b =
    let at_most = no_more_than_all opening one (size_of opening.deal - other) [] layout tt a.north_south b.east_west in
    let at_least = no_more_than_all opening other (size_of opening.deal - one) [] layout tt b.north_south a.east_west in
    omega (arith, a.within, b.within)

pub one_value : HasOneValue
one_value deal North trump one other layout a b =
    let o = opening_of deal North trump in
    let at_most = no_more_than_all o one (size_of deal - other) [] layout tt a.declarer_wins b.defenders_win in
    let at_least = no_more_than_all o other (size_of deal - one) [] layout tt b.declarer_wins a.defenders_win in
    omega (arith, a.within, b.within)
one_value deal South trump one other layout a b =
    let o = opening_of deal South trump in
    let at_most = no_more_than_all o one (size_of deal - other) [] layout tt a.declarer_wins b.defenders_win in
    let at_least = no_more_than_all o other (size_of deal - one) [] layout tt b.declarer_wins a.defenders_win in
    omega (arith, a.within, b.within)
one_value deal East trump one other layout a b =
    let o = opening_of deal East trump in
    let at_most = no_more_than_all o (size_of deal - other) one [] layout tt b.defenders_win a.declarer_wins in
    let at_least = no_more_than_all o (size_of deal - one) other [] layout tt a.defenders_win b.declarer_wins in
    omega (arith, a.within, b.within)
one_value deal West trump one other layout a b =
    let o = opening_of deal West trump in
    let at_most = no_more_than_all o (size_of deal - other) one [] layout tt b.defenders_win a.declarer_wins in
    let at_least = no_more_than_all o (size_of deal - one) other [] layout tt a.defenders_win b.declarer_wins in
    omega (arith, a.within, b.within)

-- of a contract that East or West declares the two sides change places
plain_of_defenders : (opening : Opening) (tricks plain : ℕ) → IsLayout opening.deal → tricks ≤ size_of opening.deal → CanWin opening EastWest tricks [] → CanWin opening NorthSouth (size_of opening.deal - tricks) [] → IsPlainValue opening plain → plain ≡ size_of opening.deal - tricks
plain_of_defenders opening tricks plain layout within east_west north_south is =
    let all : size_of opening.deal - (size_of opening.deal - tricks) ≡ tricks = omega arith in
    one_plain_value opening plain (size_of opening.deal - tricks) layout is (record {
      within = omega arith;
      north_south = north_south;
      east_west = subst (λ (n : ℕ). CanWin opening EastWest n []) (sym all) east_west;
    })

plain_of_declarers : (opening : Opening) (tricks plain : ℕ) → IsLayout opening.deal → tricks ≤ size_of opening.deal → CanWin opening NorthSouth tricks [] → CanWin opening EastWest (size_of opening.deal - tricks) [] → IsPlainValue opening plain → plain ≡ tricks
plain_of_declarers opening tricks plain layout within north_south east_west is =
    one_plain_value opening plain tricks layout is (record { within = within; north_south = north_south; east_west = east_west })

pub plain_is_value : PlainValueIsValue
plain_is_value deal North trump tricks plain layout value is = plain_of_declarers (opening_of deal North trump) tricks plain layout value.within value.declarer_wins value.defenders_win is
plain_is_value deal South trump tricks plain layout value is = plain_of_declarers (opening_of deal South trump) tricks plain layout value.within value.declarer_wins value.defenders_win is
plain_is_value deal East trump tricks plain layout value is = plain_of_defenders (opening_of deal East trump) tricks plain layout value.within value.declarer_wins value.defenders_win is
plain_is_value deal West trump tricks plain layout value is = plain_of_defenders (opening_of deal West trump) tricks plain layout value.within value.declarer_wins value.defenders_win is

-- The whole tricks of a history, and the rest after them.
use Rattle.std.proofs.Common.{◌≡◌, ℕ, ◌-◌, ◌%◌, ◌<◌, ◌≤◌, List, [], ◌++◌, length, take, drop, sym, ◌∙◌, ap, subst, arith, length-take, length-drop, Some}
use Rattle.std.proofs.lemmas.List.{take-append-drop, take-take, nil_from_length}
use Rattle.cards.specs.declared.seats.Seat.{Seat}
use Rattle.cards.specs.declared.seats.Side.{Side}
use Rattle.cards.specs.declared.seats.Side.TheVariants.{NorthSouth, EastWest}
use Rattle.cards.specs.declared.pack.Card.{Card}
use Rattle.cards.specs.Seats.{seat_in_place}
use Rattle.cards.specs.Deal.{Deal, IsLayout}
use Rattle.play_rules.specs.History.{Opening, trick_of, leader_after, tricks_of}
use Rattle.play_rules.specs.Legal.{IsUnfinished, seat_to_play}
use Rattle.play_rules.specs.Left.{left_of}
use Rattle.play_rules.specs.Position.{Position, IsReached, turn_of}
use Rattle.play_rules.proofs.HistoryLaws.{length-trick_of, trick_of-append, trick_of-short}
use Rattle.play_rules.proofs.PositionLaws.{tricks_of-le}
use Rattle.strategies.specs.Values.{opening_after}
use Rattle.strategies.proofs.Counting.{IsLayout-after}
use Rattle.strategies.proofs.SearchProofs.{turn-unfinished}
use Rattle.strategies.proofs.Shifting.{tricks_of-after}
use Rattle.play_values.specs.PlayValues.{Recorded, first_cards}
use Rattle.play_values.specs.Rests.{whole_tricks, tricks_won, IsRestAfter}
use Rattle.play_values.proofs.LegalLaws.{take_is_legal}

-- ---- the whole tricks
size_of_whole : (history : List Card) → length (whole_tricks history) ≡ length history - length history % 4
size_of_whole history = length-take (length history - length history % 4) history ∙ omega arith

-- no trick is in progress after them
pub whole_is_whole : (history : List Card) → trick_of (whole_tricks history) ≡ []
whole_is_whole history = nil_from_length (trick_of (whole_tricks history)) (omega (arith, length-trick_of (whole_tricks history), size_of_whole history))

-- the trick in progress is what comes after them
pub trick_is : (history : List Card) → trick_of history ≡ drop (length history - length history % 4) history
trick_is history =
    ap trick_of (sym all) ∙ (trick_of-append (whole_tricks history) more ∙ (ap (λ (t : List Card). trick_of (t ++ more)) (whole_is_whole history) ∙ trick_of-short more few))
  where
    more : List Card
    more = drop (length history - length history % 4) history

    all : whole_tricks history ++ drop (length history - length history % 4) history ≡ history
    all = take-append-drop (length history - length history % 4) history

    few : length (drop (length history - length history % 4) history) < 4
    few = omega (arith, length-drop (length history - length history % 4) history)

pub then_the_trick : (history : List Card) → whole_tricks history ++ trick_of history ≡ history
then_the_trick history =
    ap (λ (t : List Card). whole_tricks history ++ t) (trick_is history) ∙ take-append-drop (length history - length history % 4) history

pub few_in_trick : (history : List Card) → length (trick_of history) ≤ 3
few_in_trick history = omega (arith, length-trick_of history)

-- they have all the tricks of the history
pub all_won_before : (opening : Opening) (side : Side) (history : List Card) → tricks_won opening side history ≡ tricks_won opening side (whole_tricks history)
all_won_before opening side history =
    let later = leader_after opening.trump opening.leader (whole_tricks history) in
    let none : tricks_of side opening.trump later (trick_of history) ≡ 0 = omega (arith, tricks_of-le side opening.trump later (trick_of history), few_in_trick history) in
    ap (λ (h : List Card). tricks_won opening side h) (sym (then_the_trick history))
    ∙ omega (arith, tricks_of-after opening side (whole_tricks history) (trick_of history) (whole_is_whole history), none)

-- ---- the rest of a recorded play
-- the whole tricks of the first cards
pub whole_of_first : (play : Recorded) (count : ℕ) → count ≤ length play.position.history → whole_tricks (first_cards play count) ≡ first_cards play (count - count % 4)
whole_of_first play count within =
    let size : length (first_cards play count) ≡ count = length-take count play.position.history ∙ omega (arith, within) in
    ap (λ (n : ℕ). take (n - n % 4) (first_cards play count)) size ∙ take-take (count - count % 4) count play.position.history (omega arith)

-- what is left of the same cards
pub same_left : (deal other : Deal) (cards history : List Card) (count : ℕ) → deal ≡ other → cards ≡ history → left_of deal (take count cards) ≡ left_of other (take count history)
same_left deal other cards history count a b = cc

leads_next : (opening : Opening) (history : List Card) (seat : Seat) → trick_of history ≡ [] → seat_in_place (leader_after opening.trump opening.leader history) (length (trick_of history)) ≡ seat → seat ≡ leader_after opening.trump opening.leader history
leads_next opening history seat whole is = sym is ∙ ap (λ (t : List Card). seat_in_place (leader_after opening.trump opening.leader history) (length t)) whole

module _ (play : Recorded) (count : ℕ) (within : count ≤ length play.position.history) (reached : IsReached play.position) (table : Position) (is : table ≡ record play.position { history = first_cards play (count - count % 4) }) where
  abbrev opening : Opening
  opening = play.position.opening

  abbrev whole : List Card
  whole = first_cards play (count - count % 4)

  trick_over : trick_of whole ≡ []
  trick_over = subst (λ (h : List Card). trick_of h ≡ []) (whole_of_first play count within) (whole_is_whole (first_cards play count))

  unfinished : (leader : Seat) → turn_of table ≡ Some leader → IsUnfinished opening whole
  unfinished leader turn = subst (λ (p : Position). IsUnfinished p.opening p.history) is (turn-unfinished table leader turn).0

  pub rest_is_layout : (leader : Seat) → turn_of table ≡ Some leader → IsLayout (left_of opening.deal whole)
  rest_is_layout leader turn =
      IsLayout-after opening whole reached.layout (take_is_legal opening play.position.history (count - count % 4) reached.legal) trick_over (unfinished leader turn)

  pub rest_is : (leader : Seat) (layout : Deal) (north_south east_west : ℕ) → turn_of table ≡ Some leader → layout ≡ left_of opening.deal whole →
      north_south ≡ tricks_of NorthSouth table.opening.trump table.opening.leader table.history → east_west ≡ tricks_of EastWest table.opening.trump table.opening.leader table.history →
      IsRestAfter opening (first_cards play count) (record { layout = layout; leader = leader; north_south = north_south; east_west = east_west })
  rest_is leader layout north_south east_west turn left ns ew = record {
    cards_left = omega (arith, unfinished leader turn, length-take (count - count % 4) play.position.history, length-take count play.position.history);
    opening_is = there ∙ ap (λ (h : List Card). opening_after opening h) (sym (whole_of_first play count within));
    north_south = won NorthSouth north_south ns;
    east_west = won EastWest east_west ew;
  }
    where
      lead : leader ≡ leader_after opening.trump opening.leader whole
      lead = leads_next opening whole leader trick_over (subst (λ (p : Position). seat_to_play p.opening p.history ≡ leader) is (turn-unfinished table leader turn).1)

      there : record { deal = layout; leader = leader; trump = opening.trump } ≡ opening_after opening whole
      there = ap (λ (d : Deal). record { deal = d; leader = leader; trump = opening.trump }) left
          ∙ ap (λ (s : Seat). record { deal = left_of opening.deal whole; leader = s; trump = opening.trump }) lead

      won : (side : Side) (tricks : ℕ) → tricks ≡ tricks_of side table.opening.trump table.opening.leader table.history → tricks ≡ tricks_won opening side (first_cards play count)
      won side tricks said = said ∙ (ap (λ (p : Position). tricks_of side p.opening.trump p.opening.leader p.history) is
          ∙ (ap (λ (h : List Card). tricks_won opening side h) (sym (whole_of_first play count within)) ∙ sym (all_won_before opening side (first_cards play count))))

-- How many cards each seat has left, and how many tricks there are.
use Rattle.std.proofs.Common.{◌≡◌, ℕ, suc, ◌+◌, ◌-◌, ◌*◌, ◌<◌, ◌≤◌, Bool, true, false, cond, List, [], ◌∷◌, length, get_or, Option, None, Some, refl, ◌∙◌, ap, arith}
use Rattle.std.proofs.lemmas.List.Sums.{sum_by-cons}
use Rattle.std.specs.Prelude.{count_by}
use Rattle.cards.specs.declared.suits.Trump.{Trump}
use Rattle.cards.specs.declared.seats.Seat.{Seat}
use Rattle.cards.specs.declared.seats.Seat.TheVariants.{North, East, South, West}
use Rattle.cards.specs.declared.seats.Side.TheVariants.{NorthSouth, EastWest}
use Rattle.cards.specs.declared.pack.Card.{Card}
use Rattle.cards.specs.Pack.{card_at}
use Rattle.cards.proofs.PackLaws.{card_number-card_at}
use Rattle.cards.proofs.HandLaws.{held-is}
use Rattle.cards.specs.SameDeal.{is_same_seat-refl}
use Rattle.cards.specs.Seats.{next_of, side_of, is_same_seat, is_same_side}
use Rattle.cards.specs.Deal.{Deal, holder_of, is_held_by, count_of, size_of, IsLayout}
use Rattle.play_rules.specs.Winners.{winner_of}
use Rattle.play_rules.specs.History.{Opening, trick_made, trick_of, leader_after, turn_after, tricks_of}
use Rattle.play_rules.specs.Left.{left_of, without}
use Rattle.play_rules.proofs.LeftLaws.{length-without, length-left_of, left_when_held, count_of-without}
use Rattle.play_rules.specs.Legal.{CanPlay, IsLegalHistory}
use Rattle.strategies.proofs.Shifting.{IsLegalAfter-after}

-- the two sides' tricks are all the fours
pub tricks-add_up : (trump : Trump) (leader : Seat) (history : List Card) → 4 * (tricks_of NorthSouth trump leader history + tricks_of EastWest trump leader history) + length (trick_of history) ≡ length history
unfolding tricks_of trick_of
tricks-add_up trump leader [] = refl
tricks-add_up trump leader (a ∷ []) = refl
tricks-add_up trump leader (a ∷ b ∷ []) = refl
tricks-add_up trump leader (a ∷ b ∷ c ∷ []) = refl
tricks-add_up trump leader (a ∷ b ∷ c ∷ d ∷ rest) =
    let winner = winner_of trump leader (trick_made a b c d) in
    omega (arith, tricks-add_up trump winner rest, one_side winner)
  where
    one_side : (seat : Seat) → cond (is_same_side (side_of seat) NorthSouth) 1 0 + cond (is_same_side (side_of seat) EastWest) 1 0 ≡ 1
    one_side North = refl
    one_side East = refl
    one_side South = refl
    one_side West = refl

none_of : (b : Bool) → b ≡ false → ◌≡◌ {A = ℕ} (cond b 1 0) 0
none_of b e = rw e refl

-- a list that counts above 0 has an element that counts
some_counted : (seat : Seat) (holders : List (Option Seat)) → 0 < count_by (is_held_by seat) holders → (i : ℕ) × (i < length holders) × (is_held_by seat (get_or holders i None) ≡ true)
some_counted seat [] h = absurd (omega arith)
some_counted seat (first ∷ rest) h = go (is_held_by seat first) refl (some_counted seat rest)
  where
    go : (b : Bool) → is_held_by seat first ≡ b → (0 < count_by (is_held_by seat) rest → (i : ℕ) × (i < length rest) × (is_held_by seat (get_or rest i None) ≡ true)) → (i : ℕ) × (i < length (first ∷ rest)) × (is_held_by seat (get_or (first ∷ rest) i None) ≡ true)
    go true e more = (0, omega arith, e)
    go false e more =
        let split = sum_by-cons (λ o. cond (is_held_by seat o) 1 0) first rest in
        let none = none_of (is_held_by seat first) e in
        let found = more (omega arith) in
        (suc found.0, omega (arith, found.1), found.2)

-- a seat with cards holds some card
pub some_card_held : (deal : Deal) (seat : Seat) → length deal ≡ 52 → 0 < count_of deal seat → (card : Card) × (holder_of deal card ≡ Some seat)
some_card_held deal seat whole h =
    let found = some_counted seat deal h in
    let number = card_number-card_at found.0 (omega (arith, found.1)) in
    (card_at found.0, ap (λ (i : ℕ). get_or deal i None) number ∙ held-is seat (get_or deal found.0 None) found.2)

abbrev at_start : Trump → Deal → Seat → Opening
at_start trump deal leader = record { deal = deal; leader = leader; trump = trump }

-- in a trick each seat plays once
each_once : (seat leader : Seat) → cond (is_same_seat seat leader) 1 0 + cond (is_same_seat seat (next_of leader)) 1 0 + cond (is_same_seat seat (next_of (next_of leader))) 1 0 + cond (is_same_seat seat (next_of (next_of (next_of leader)))) 1 0 ≡ 1
each_once North North = refl
each_once North East = refl
each_once North South = refl
each_once North West = refl
each_once East North = refl
each_once East East = refl
each_once East South = refl
each_once East West = refl
each_once South North = refl
each_once South East = refl
each_once South South = refl
each_once South West = refl
each_once West North = refl
each_once West East = refl
each_once West South = refl
each_once West West = refl

apart_1 : (seat : Seat) → ◌≡◌ {A = ℕ} (cond (is_same_seat (next_of seat) seat) 1 0) 0
apart_1 North = refl
apart_1 East = refl
apart_1 South = refl
apart_1 West = refl

apart_2 : (seat : Seat) → ◌≡◌ {A = ℕ} (cond (is_same_seat (next_of (next_of seat)) seat) 1 0) 0
apart_2 North = refl
apart_2 East = refl
apart_2 South = refl
apart_2 West = refl

apart_3 : (seat : Seat) → ◌≡◌ {A = ℕ} (cond (is_same_seat (next_of (next_of (next_of seat))) seat) 1 0) 0
apart_3 North = refl
apart_3 East = refl
apart_3 South = refl
apart_3 West = refl

-- who held the first cards of a trick
held_1 : (trump : Trump) (deal : Deal) (leader : Seat) (a : Card) → CanPlay (at_start trump deal leader) [] a → holder_of deal a ≡ Some leader
unfolding leader_after trick_of left_of
held_1 trump deal leader a can = left_when_held deal [] leader a can.held

held_2 : (trump : Trump) (deal : Deal) (leader : Seat) (a b : Card) → CanPlay (at_start trump deal leader) (a ∷ []) b → holder_of (without deal a) b ≡ Some (next_of leader)
unfolding leader_after trick_of left_of
held_2 trump deal leader a b can = left_when_held deal (a ∷ []) (next_of leader) b can.held

held_3 : (trump : Trump) (deal : Deal) (leader : Seat) (a b c : Card) → CanPlay (at_start trump deal leader) (a ∷ b ∷ []) c → holder_of (without (without deal a) b) c ≡ Some (next_of (next_of leader))
unfolding leader_after trick_of left_of
held_3 trump deal leader a b c can = left_when_held deal (a ∷ b ∷ []) (next_of (next_of leader)) c can.held

held_4 : (trump : Trump) (deal : Deal) (leader : Seat) (a b c e : Card) → CanPlay (at_start trump deal leader) (a ∷ b ∷ c ∷ []) e → holder_of (without (without (without deal a) b) c) e ≡ Some (next_of (next_of (next_of leader)))
unfolding leader_after trick_of left_of
held_4 trump deal leader a b c e can = left_when_held deal (a ∷ b ∷ c ∷ []) (next_of (next_of (next_of leader))) e can.held

-- what a whole trick takes from each hand
pub count_of-trick : (trump : Trump) (deal : Deal) (leader : Seat) (a b c e : Card) (rest : List Card) → IsLegalHistory (at_start trump deal leader) (a ∷ b ∷ c ∷ e ∷ rest) → (seat : Seat) → count_of (left_of deal (a ∷ b ∷ c ∷ e ∷ [])) seat + 1 ≡ count_of deal seat
unfolding left_of
count_of-trick trump deal leader a b c e rest legal seat =
    let c1 = count_of-without deal a leader seat (held_1 trump deal leader a legal.0) in
    let c2 = count_of-without (without deal a) b (next_of leader) seat (held_2 trump deal leader a b legal.1.0) in
    let c3 = count_of-without (without (without deal a) b) c (next_of (next_of leader)) seat (held_3 trump deal leader a b c legal.1.1.0) in
    let c4 = count_of-without (without (without (without deal a) b) c) e (next_of (next_of (next_of leader))) seat (held_4 trump deal leader a b c e legal.1.1.1.0) in
    omega (arith, each_once seat leader, c1, c2, c3, c4)

four-whole : (a b c e : Card) → trick_of (a ∷ b ∷ c ∷ e ∷ []) ≡ []
unfolding trick_of
four-whole a b c e = refl

-- the rest of a history, after its first trick
pub rest-legal : (trump : Trump) (deal : Deal) (leader : Seat) (a b c e : Card) (rest : List Card) → IsLegalHistory (at_start trump deal leader) (a ∷ b ∷ c ∷ e ∷ rest) → IsLegalHistory (at_start trump (left_of deal (a ∷ b ∷ c ∷ e ∷ [])) (winner_of trump leader (trick_made a b c e))) rest
unfolding leader_after
rest-legal trump deal leader a b c e rest legal =
    IsLegalAfter-after (at_start trump deal leader) (a ∷ b ∷ c ∷ e ∷ []) [] rest (four-whole a b c e) legal.1.1.1.1

-- after whole tricks each hand has lost a card a trick
pub count_of-left_of : (trump : Trump) (deal : Deal) (leader : Seat) (history : List Card) → IsLegalHistory (at_start trump deal leader) history → trick_of history ≡ [] → (seat : Seat) → 4 * count_of (left_of deal history) seat + length history ≡ 4 * count_of deal seat
unfolding trick_of left_of
count_of-left_of trump deal leader [] legal e seat = omega arith
count_of-left_of trump deal leader (a ∷ []) legal e seat = absurd (omega (arith, ap length e))
count_of-left_of trump deal leader (a ∷ b ∷ []) legal e seat = absurd (omega (arith, ap length e))
count_of-left_of trump deal leader (a ∷ b ∷ c ∷ []) legal e seat = absurd (omega (arith, ap length e))
count_of-left_of trump deal leader (a ∷ b ∷ c ∷ d ∷ rest) legal e seat =
    let left = left_of deal (a ∷ b ∷ c ∷ d ∷ []) in
    let one = count_of-trick trump deal leader a b c d rest legal seat in
    let more = count_of-left_of trump left (winner_of trump leader (trick_made a b c d)) rest (rest-legal trump deal leader a b c d rest legal) e seat in
    omega (arith, one, more)

-- a first card is one of its leader's
some_card_dealt : (trump : Trump) (deal : Deal) (leader : Seat) (a : Card) → CanPlay (at_start trump deal leader) [] a → 0 < count_of deal leader
some_card_dealt trump deal leader a can =
    let fewer : count_of (without deal a) leader + 1 ≡ count_of deal leader =
    rw (is_same_seat-refl leader) at (count_of-without deal a leader leader (held_1 trump deal leader a can)) in
    omega arith

-- a legal history has no more cards than there are in play
pub legal-within : (trump : Trump) (deal : Deal) (leader : Seat) (history : List Card) (n : ℕ) → ((seat : Seat) → count_of deal seat ≡ n) → IsLegalHistory (at_start trump deal leader) history → length history ≤ 4 * n
legal-within trump deal leader [] n count legal = omega arith
legal-within trump deal leader (a ∷ []) n count legal = omega (arith, some_card_dealt trump deal leader a legal.0, count leader)
legal-within trump deal leader (a ∷ b ∷ []) n count legal = omega (arith, some_card_dealt trump deal leader a legal.0, count leader)
legal-within trump deal leader (a ∷ b ∷ c ∷ []) n count legal = omega (arith, some_card_dealt trump deal leader a legal.0, count leader)
legal-within trump deal leader (a ∷ b ∷ c ∷ d ∷ rest) n count legal =
    let one : (seat : Seat) → count_of (left_of deal (a ∷ b ∷ c ∷ d ∷ [])) seat + 1 ≡ n = λ seat. count_of-trick trump deal leader a b c d rest legal seat ∙ count seat in
    omega (arith, one North, legal-within trump (left_of deal (a ∷ b ∷ c ∷ d ∷ [])) (winner_of trump leader (trick_made a b c d)) rest (n - 1) (λ seat. omega (arith, one seat)) (rest-legal trump deal leader a b c d rest legal))

-- the layout left after whole tricks, while cards are left
pub IsLayout-after : (opening : Opening) (history : List Card) → IsLayout opening.deal → IsLegalHistory opening history → trick_of history ≡ [] → length history < 4 * size_of opening.deal → IsLayout (left_of opening.deal history)
IsLayout-after opening history layout legal e more =
    let count = count_of-left_of opening.trump opening.deal opening.leader history legal e in
    record {
      whole_pack = length-left_of opening.deal history ∙ layout.whole_pack;
      some_cards = omega (arith, count North);
      at_most_13 = omega (arith, count North, layout.at_most_13);
      equal_hands = λ seat. omega (arith, count seat, count North, layout.equal_hands seat);
    }

-- a seat to play that still has a card
pub some_card_to_play : (trump : Trump) (deal : Deal) (leader : Seat) (history : List Card) (n : ℕ) → length deal ≡ 52 → ((seat : Seat) → count_of deal seat ≡ n) → IsLegalHistory (at_start trump deal leader) history → length history < 4 * n → (card : Card) × (holder_of (left_of deal history) card ≡ Some (turn_after trump leader history))
unfolding trick_of leader_after left_of
some_card_to_play trump deal leader [] n whole count legal more = some_card_held deal leader whole (omega (arith, count leader))
some_card_to_play trump deal leader (a ∷ []) n whole count legal more =
    let c1 = count_of-without deal a leader (next_of leader) (held_1 trump deal leader a legal.0) in
    some_card_held (without deal a) (next_of leader) (length-without deal a ∙ whole) (omega (arith, c1, count (next_of leader), apart_1 leader))
some_card_to_play trump deal leader (a ∷ b ∷ []) n whole count legal more =
    let seat = next_of (next_of leader) in
    let w1 = length-without deal a ∙ whole in
    let c1 = count_of-without deal a leader seat (held_1 trump deal leader a legal.0) in
    let c2 = count_of-without (without deal a) b (next_of leader) seat (held_2 trump deal leader a b legal.1.0) in
    some_card_held (without (without deal a) b) seat (length-without (without deal a) b ∙ w1) (omega (arith, c1, c2, count seat, apart_1 (next_of leader), apart_2 leader))
some_card_to_play trump deal leader (a ∷ b ∷ c ∷ []) n whole count legal more =
    let seat = next_of (next_of (next_of leader)) in
    let w1 = length-without deal a ∙ whole in
    let w2 = length-without (without deal a) b ∙ w1 in
    let c1 = count_of-without deal a leader seat (held_1 trump deal leader a legal.0) in
    let c2 = count_of-without (without deal a) b (next_of leader) seat (held_2 trump deal leader a b legal.1.0) in
    let c3 = count_of-without (without (without deal a) b) c (next_of (next_of leader)) seat (held_3 trump deal leader a b c legal.1.1.0) in
    some_card_held (without (without (without deal a) b) c) seat (length-without (without (without deal a) b) c ∙ w2)
    (omega (arith, c1, c2, c3, count seat, apart_1 (next_of (next_of leader)), apart_2 (next_of leader), apart_3 leader))
some_card_to_play trump deal leader (a ∷ b ∷ c ∷ d ∷ rest) n whole count legal more =
    let left = left_of deal (a ∷ b ∷ c ∷ d ∷ []) in
    some_card_to_play trump left (winner_of trump leader (trick_made a b c d)) rest (n - 1) (length-left_of deal (a ∷ b ∷ c ∷ d ∷ []) ∙ whole)
    (λ seat. omega (arith, count_of-trick trump deal leader a b c d rest legal seat, count seat))
    (rest-legal trump deal leader a b c d rest legal) (omega arith)

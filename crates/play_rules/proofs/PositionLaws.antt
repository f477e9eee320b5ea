-- What a table keeps still fits its position after one card more.
use Rattle.std.proofs.Common.{◌≡◌, ◌+◌, ◌*◌, ◌<◌, ◌≤◌, Bool, true, false, cond, List, [], ◌∷◌, ◌++◌, length, get_or, Some, refl, sym, ◌∙◌, ap, arith, inl, inr, append_assoc, length-append, append-nil, add-zero}
use Rattle.cards.specs.declared.suits.Suit.{Suit}
use Rattle.cards.specs.declared.suits.Trump.{Trump}
use Rattle.cards.specs.declared.seats.Seat.{Seat}
use Rattle.cards.specs.declared.seats.Side.{Side}
use Rattle.cards.specs.declared.seats.Side.TheVariants.{NorthSouth, EastWest}
use Rattle.cards.specs.declared.pack.Card.{Card}
use Rattle.cards.specs.Seats.{next_of, seat_in_place, side_of, is_same_side}
use Rattle.std.proofs.lemmas.Bool.{cases_eq}
use Rattle.cards.specs.Pack.{suit_number}
use Rattle.cards.proofs.PackLaws.{same_from_suit_numbers}
use Rattle.cards.specs.Deal.{holder_of, count_of, IsLayout}
use Rattle.play_rules.specs.Winners.{winner_of}
use Rattle.play_rules.specs.History.{Opening, trick_made, trick_of, leader_after, tricks_of}
use Rattle.play_rules.specs.Left.{left_of, without}
use Rattle.play_rules.proofs.LeftLaws.{still_held, left_when_held, left_of-push, count_of-left_of-le}
use Rattle.play_rules.proofs.HistoryLaws.{trick_of-append, leader_after-append, tricks_of-append, seat_in_place-push, GoesOn-from_short, Ends-from_four}
use Rattle.play_rules.specs.Legal.{StillHolds, CanFollow, CanPlay, IsLegalAfter, IsLegalHistory, IsUnfinished, seat_to_play}
use Rattle.play_rules.specs.Position.{Position, IsReached, AreLegalCards, with_card}
use Rattle.play_rules.specs.Holdings.{HoldsSuit, MayBePlayed, IsToBeFollowed, Revokes, AreListedTo}
use Rattle.play_rules.proofs.HoldingLaws.{listed_place-lt}
use Rattle.play_rules.specs.Plays.{FailsToFollow}
use Rattle.play_rules.specs.Tables.{Summary, Summarizes}

-- who still holds a card of a suit, by what is left
pub CanFollow-from_left : (opening : Opening) (history : List Card) (suit : Suit) → HoldsSuit (left_of opening.deal history) (seat_to_play opening history) suit → CanFollow opening history suit
CanFollow-from_left opening history suit h = (h.0, still_held opening.deal history (seat_to_play opening history) h.0 h.1, h.2)

pub HoldsSuit-from_CanFollow : (opening : Opening) (history : List Card) (suit : Suit) → CanFollow opening history suit → HoldsSuit (left_of opening.deal history) (seat_to_play opening history) suit
HoldsSuit-from_CanFollow opening history suit h = (h.0, left_when_held opening.deal history (seat_to_play opening history) h.0 h.1, h.2)

-- which cards may be played, by what is left
pub CanPlay-from_left : (opening : Opening) (history : List Card) (card : Card) → MayBePlayed (left_of opening.deal history) (seat_to_play opening history) (trick_of history) card → CanPlay opening history card
CanPlay-from_left opening history card may = record {
  held = still_held opening.deal history (seat_to_play opening history) card may.held;
  follows = λ led is can. may.follows led is (HoldsSuit-from_CanFollow opening history led can);
}

pub MayBePlayed-from_CanPlay : (opening : Opening) (history : List Card) (card : Card) → CanPlay opening history card → MayBePlayed (left_of opening.deal history) (seat_to_play opening history) (trick_of history) card
MayBePlayed-from_CanPlay opening history card can = record {
  held = left_when_held opening.deal history (seat_to_play opening history) card can.held;
  follows = λ led is has. can.follows led is (CanFollow-from_left opening history led has);
}

-- legal play goes on
pub IsLegalAfter-append : (opening : Opening) (history one more : List Card) → IsLegalAfter opening history one → IsLegalAfter opening (history ++ one) more → IsLegalAfter opening history (one ++ more)
IsLegalAfter-append opening history [] more a b = rw append-nil at b
IsLegalAfter-append opening history (card ∷ cards) more a b =
    (a.0, IsLegalAfter-append opening (history ++ card ∷ []) cards more a.1 (rw (← append_assoc history (card ∷ []) cards) at b))

pub IsLegalHistory-push : (opening : Opening) (history : List Card) (card : Card) → IsLegalHistory opening history → CanPlay opening history card → IsLegalHistory opening (history ++ card ∷ [])
IsLegalHistory-push opening history card legal can = IsLegalAfter-append opening [] history (card ∷ []) legal (can, tt)

-- a side wins no more tricks than there are fours
pub tricks_of-le : (side : Side) (trump : Trump) (leader : Seat) (history : List Card) → 4 * tricks_of side trump leader history ≤ length history
unfolding tricks_of
tricks_of-le side trump leader [] = omega arith
tricks_of-le side trump leader (a ∷ []) = omega arith
tricks_of-le side trump leader (a ∷ b ∷ []) = omega arith
tricks_of-le side trump leader (a ∷ b ∷ c ∷ []) = omega arith
tricks_of-le side trump leader (a ∷ b ∷ c ∷ d ∷ rest) =
    let winner = winner_of trump leader (trick_made a b c d) in
    omega (arith, tricks_of-le side trump winner rest, one_at_most (is_same_side (side_of winner) side))
  where
    one_at_most : (b : Bool) → cond b 1 0 ≤ 1
    one_at_most true = omega arith
    one_at_most false = omega arith

-- the player kept is the seat to play
pub player-is : (position : Position) (s : Summary) → Summarizes position s → s.player ≡ seat_to_play position.opening position.history
player-is position s kept =
    kept.player_is ∙ (ap (λ seat. seat_in_place seat (length s.trick)) kept.trick_leader_is ∙ ap (λ trick. seat_in_place (leader_after position.opening.trump position.opening.leader position.history) (length trick)) kept.trick_is)

IsReached-push : (position : Position) (card : Card) → IsReached position → IsUnfinished position.opening position.history → CanPlay position.opening position.history card → IsReached (with_card position card)
IsReached-push position card reached more can = record {
  layout = reached.layout;
  legal = IsLegalHistory-push position.opening position.history card reached.legal can;
  within = omega (arith, length-append position.history (card ∷ []));
}

-- after a card that does not end its trick
pub Summarizes-goes_on : (position : Position) (s : Summary) (card : Card) → Summarizes position s → IsUnfinished position.opening position.history → CanPlay position.opening position.history card → length s.trick < 3 → Summarizes (with_card position card) (record { left = without s.left card; trick = s.trick ++ card ∷ []; trick_leader = s.trick_leader; player = next_of s.player; north_south = s.north_south; east_west = s.east_west })
Summarizes-goes_on position s card kept more can short =
    let trump = position.opening.trump in
    let leader = position.opening.leader in
    let history = position.history in
    let on = GoesOn-from_short trump s.trick_leader s.trick card short in
    let tricks : (side : Side) → tricks_of side trump leader (history ++ card ∷ []) ≡ tricks_of side trump leader history + 0 =
    λ side. tricks_of-append side trump leader history (card ∷ []) ∙ ap (λ n. tricks_of side trump leader history + n) (rw (← kept.trick_is, ← kept.trick_leader_is) (on.tricks_are side)) in
    record {
      reached = IsReached-push position card kept.reached more can;
      left_is = ap (λ d. without d card) kept.left_is ∙ sym (left_of-push position.opening.deal history card);
      trick_is = sym (trick_of-append history (card ∷ []) ∙ rw (← kept.trick_is) on.trick_is);
      trick_leader_is = sym (leader_after-append trump leader history (card ∷ []) ∙ rw (← kept.trick_is, ← kept.trick_leader_is) on.leader_is);
      player_is = ap next_of kept.player_is ∙ sym (seat_in_place-push s.trick_leader s.trick card);
      north_south_is = kept.north_south_is ∙ omega (arith, tricks NorthSouth);
      east_west_is = kept.east_west_is ∙ omega (arith, tricks EastWest);
    }

-- after a card that ends its trick
pub Summarizes-ends : (position : Position) (s : Summary) (card first second third : Card) (winner : Seat) → Summarizes position s → IsUnfinished position.opening position.history → CanPlay position.opening position.history card → s.trick ≡ first ∷ second ∷ third ∷ [] → winner ≡ winner_of position.opening.trump s.trick_leader (trick_made first second third card) → Summarizes (with_card position card) (record { left = without s.left card; trick = []; trick_leader = winner; player = winner; north_south = s.north_south + cond (is_same_side (side_of winner) NorthSouth) 1 0; east_west = s.east_west + cond (is_same_side (side_of winner) EastWest) 1 0 })
Summarizes-ends position s card first second third winner kept more can full won =
    let trump = position.opening.trump in
    let leader = position.opening.leader in
    let history = position.history in
    let end = Ends-from_four trump s.trick_leader first second third card in
    let whole : trick_of history ++ card ∷ [] ≡ first ∷ second ∷ third ∷ card ∷ [] = ap (λ t. t ++ card ∷ []) (sym kept.trick_is ∙ full) in
    let tricks : (side : Side) → tricks_of side trump leader (history ++ card ∷ []) ≡ tricks_of side trump leader history + cond (is_same_side (side_of winner) side) 1 0 =
    λ side. tricks_of-append side trump leader history (card ∷ []) ∙ ap (λ n. tricks_of side trump leader history + n) (rw (whole, ← kept.trick_leader_is, won) (end.tricks_are side)) in
    record {
      reached = IsReached-push position card kept.reached more can;
      left_is = ap (λ d. without d card) kept.left_is ∙ sym (left_of-push position.opening.deal history card);
      trick_is = sym (trick_of-append history (card ∷ []) ∙ rw whole end.trick_is);
      trick_leader_is = won ∙ sym (leader_after-append trump leader history (card ∷ []) ∙ rw (whole, ← kept.trick_leader_is) end.leader_is);
      player_is = refl;
      north_south_is = omega (arith, tricks NorthSouth, kept.north_south_is);
      east_west_is = omega (arith, tricks EastWest, kept.east_west_is);
    }

pub three_cards : (cards : List Card) (d e f : Card) → length cards ≡ 3 → cards ≡ get_or cards 0 d ∷ get_or cards 1 e ∷ get_or cards 2 f ∷ []
three_cards [] d e f h = absurd (omega arith)
three_cards (a ∷ []) d e f h = absurd (omega arith)
three_cards (a ∷ b ∷ []) d e f h = absurd (omega arith)
three_cards (a ∷ b ∷ c ∷ []) d e f h = refl
three_cards (a ∷ b ∷ c ∷ x ∷ rest) d e f h = absurd (omega arith)

-- the list of what may be played, by what the table keeps
pub AreLegalCards-from_left : (position : Position) (s : Summary) (cards : List Card) → Summarizes position s → AreListedTo s.left s.player s.trick 52 cards → AreLegalCards position cards
AreLegalCards-from_left position s cards kept listed =
    let listed' : AreListedTo (left_of position.opening.deal position.history) (seat_to_play position.opening position.history) (trick_of position.history) 52 cards = rw (kept.left_is, player-is position s kept, kept.trick_is) at listed in
    record {
      legal = λ card h. CanPlay-from_left position.opening position.history card (listed'.legal card h);
      all = λ card can. listed'.all card (listed_place-lt card) (MayBePlayed-from_CanPlay position.opening position.history card can);
      in_order = listed.in_order;
    }

-- no hand is larger than it was dealt
pub hand-le : (position : Position) (s : Summary) → Summarizes position s → count_of s.left s.player ≤ 13
hand-le position s kept =
    let layout = kept.reached.layout in
    let less : count_of (left_of position.opening.deal position.history) s.player ≤ count_of position.opening.deal s.player = count_of-left_of-le position.opening.deal position.history s.player layout.whole_pack in
    let same : count_of s.left s.player ≡ count_of (left_of position.opening.deal position.history) s.player = ap (λ d. count_of d s.player) kept.left_is in
    omega (arith, layout.equal_hands s.player, layout.at_most_13)

-- the three tests of a card, by what the table keeps
pub still_held-from_left : (position : Position) (s : Summary) (card : Card) → Summarizes position s → holder_of s.left card ≡ Some s.player → StillHolds position.opening.deal position.history (seat_to_play position.opening position.history) card
still_held-from_left position s card kept held =
    still_held position.opening.deal position.history _ card (rw (kept.left_is, player-is position s kept) at held)

pub held-from_still_held : (position : Position) (s : Summary) (card : Card) → Summarizes position s → StillHolds position.opening.deal position.history (seat_to_play position.opening position.history) card → holder_of s.left card ≡ Some s.player
held-from_still_held position s card kept h =
    rw (kept.left_is, player-is position s kept) (left_when_held position.opening.deal position.history _ card h)

pub FailsToFollow-from_Revokes : (position : Position) (s : Summary) (card : Card) → Summarizes position s → holder_of s.left card ≡ Some s.player → Revokes s.left s.player s.trick card → FailsToFollow position card
FailsToFollow-from_Revokes position s card kept held revokes =
    let must : IsToBeFollowed (left_of position.opening.deal position.history) (seat_to_play position.opening position.history) (trick_of position.history) revokes.suit = rw (kept.left_is, player-is position s kept, kept.trick_is) at revokes.to_be_followed in
    record {
      held = still_held-from_left position s card kept held;
      led = revokes.suit;
      is_led = must.led;
      can_follow = CanFollow-from_left position.opening position.history revokes.suit must.held;
      other_suit = revokes.other;
    }

pub CanPlay-from_tests : (position : Position) (s : Summary) (card : Card) → Summarizes position s → holder_of s.left card ≡ Some s.player → (Revokes s.left s.player s.trick card → ⊥) → CanPlay position.opening position.history card
CanPlay-from_tests position s card kept held not = record {
  held = still_held-from_left position s card kept held;
  follows = λ led is can.
      let has : HoldsSuit s.left s.player led = rw (kept.left_is, player-is position s kept) (HoldsSuit-from_CanFollow position.opening position.history led can) in
      elim (cases_eq (suit_number card.suit) (suit_number led)) [
        | inl e ↦ same_from_suit_numbers card.suit led e
        | inr n ↦ absurd (not (record { suit = led; to_be_followed = record { led = rw kept.trick_is is; held = has }; other = λ e. n (ap suit_number e) }))
      ];
}

-- a count of tricks fits a byte
pub tricks-small : (side : Side) (position : Position) → IsReached position → tricks_of side position.opening.trump position.opening.leader position.history ≤ 13
tricks-small side position reached = omega (arith, tricks_of-le side position.opening.trump position.opening.leader position.history, reached.within, reached.layout.at_most_13)

-- what a new table keeps
pub Summarizes-new : (opening : Opening) → IsLayout opening.deal → Summarizes (record { opening = opening; history = [] }) (record { left = opening.deal; trick = []; trick_leader = opening.leader; player = opening.leader; north_south = 0; east_west = 0 })
unfolding trick_of leader_after tricks_of left_of
Summarizes-new opening layout = record {
  reached = record { layout = layout; legal = tt; within = omega arith };
  left_is = refl;
  trick_is = refl;
  trick_leader_is = refl;
  player_is = refl;
  north_south_is = refl;
  east_west_is = refl;
}

-- after a card that ends a trick of North and South
pub Summarizes-won_north_south : (position : Position) (s : Summary) (card first second third : Card) (winner : Seat) → Summarizes position s → IsUnfinished position.opening position.history → CanPlay position.opening position.history card → s.trick ≡ first ∷ second ∷ third ∷ [] → winner ≡ winner_of position.opening.trump s.trick_leader (trick_made first second third card) → side_of winner ≡ NorthSouth → Summarizes (with_card position card) (record { left = without s.left card; trick = []; trick_leader = winner; player = winner; north_south = s.north_south + 1; east_west = s.east_west })
Summarizes-won_north_south position s card first second third winner kept more can full won side =
    rw add-zero at (rw side at (Summarizes-ends position s card first second third winner kept more can full won))

-- after a card that ends a trick of East and West
pub Summarizes-won_east_west : (position : Position) (s : Summary) (card first second third : Card) (winner : Seat) → Summarizes position s → IsUnfinished position.opening position.history → CanPlay position.opening position.history card → s.trick ≡ first ∷ second ∷ third ∷ [] → winner ≡ winner_of position.opening.trump s.trick_leader (trick_made first second third card) → side_of winner ≡ EastWest → Summarizes (with_card position card) (record { left = without s.left card; trick = []; trick_leader = winner; player = winner; north_south = s.north_south; east_west = s.east_west + 1 })
Summarizes-won_east_west position s card first second third winner kept more can full won side =
    rw add-zero at (rw side at (Summarizes-ends position s card first second third winner kept more can full won))

-- ---- the position after a card
pub reached_on : (position : Position) (card : Card) → IsReached position → IsUnfinished position.opening position.history → CanPlay position.opening position.history card → IsReached (with_card position card)
reached_on position card reached more can = record {
  layout = reached.layout;
  legal = IsLegalHistory-push position.opening position.history card reached.legal can;
  within = omega (arith, length-append position.history (card ∷ []), more);
}

-- How the words on a history go on when more cards are played.
use Rattle.std.proofs.Common.{◌≡◌, ◌+◌, ◌%◌, ◌<◌, cond, List, [], ◌∷◌, ◌++◌, length, refl, ap, arith}
use Rattle.cards.specs.declared.suits.Trump.{Trump}
use Rattle.cards.specs.declared.seats.Seat.{Seat}
use Rattle.cards.specs.declared.seats.Side.{Side}
use Rattle.cards.specs.declared.pack.Card.{Card}
use Rattle.cards.specs.Seats.{next_of, seat_in_place, side_of, is_same_side}
use Rattle.play_rules.specs.Winners.{winner_of}
use Rattle.play_rules.specs.History.{Opening, trick_made, trick_of, leader_after, suit_of_first, tricks_of}
use Rattle.play_rules.specs.Legal.{seat_to_play}

pub trick_of-append : (history more : List Card) → trick_of (history ++ more) ≡ trick_of (trick_of history ++ more)
unfolding trick_of
trick_of-append [] more = refl
trick_of-append (a ∷ []) more = refl
trick_of-append (a ∷ b ∷ []) more = refl
trick_of-append (a ∷ b ∷ c ∷ []) more = refl
trick_of-append (a ∷ b ∷ c ∷ d ∷ rest) more = trick_of-append rest more

pub leader_after-append : (trump : Trump) (leader : Seat) (history more : List Card) → leader_after trump leader (history ++ more) ≡ leader_after trump (leader_after trump leader history) (trick_of history ++ more)
unfolding trick_of leader_after
leader_after-append trump leader [] more = refl
leader_after-append trump leader (a ∷ []) more = refl
leader_after-append trump leader (a ∷ b ∷ []) more = refl
leader_after-append trump leader (a ∷ b ∷ c ∷ []) more = refl
leader_after-append trump leader (a ∷ b ∷ c ∷ d ∷ rest) more = leader_after-append trump (winner_of trump leader (trick_made a b c d)) rest more

pub tricks_of-append : (side : Side) (trump : Trump) (leader : Seat) (history more : List Card) → tricks_of side trump leader (history ++ more) ≡ tricks_of side trump leader history + tricks_of side trump (leader_after trump leader history) (trick_of history ++ more)
unfolding trick_of leader_after tricks_of
tricks_of-append side trump leader [] more = omega arith
tricks_of-append side trump leader (a ∷ []) more = omega arith
tricks_of-append side trump leader (a ∷ b ∷ []) more = omega arith
tricks_of-append side trump leader (a ∷ b ∷ c ∷ []) more = omega arith
tricks_of-append side trump leader (a ∷ b ∷ c ∷ d ∷ rest) more =
    let winner = winner_of trump leader (trick_made a b c d) in
    omega (arith, tricks_of-append side trump winner rest more)

pub length-trick_of : (history : List Card) → length (trick_of history) ≡ length history % 4
unfolding trick_of
length-trick_of [] = refl
length-trick_of (a ∷ []) = refl
length-trick_of (a ∷ b ∷ []) = refl
length-trick_of (a ∷ b ∷ c ∷ []) = refl
length-trick_of (a ∷ b ∷ c ∷ d ∷ rest) = omega (arith, length-trick_of rest)

-- the turn after a card more of the trick
pub seat_in_place-push : (seat : Seat) (cards : List Card) (card : Card) → seat_in_place seat (length (cards ++ card ∷ [])) ≡ next_of (seat_in_place seat (length cards))
seat_in_place-push seat [] card = refl
seat_in_place-push seat (first ∷ cards) card = seat_in_place-push (next_of seat) cards card

-- fewer than four cards are the trick in progress, with the first leader
pub trick_of-short : (cards : List Card) → length cards < 4 → trick_of cards ≡ cards
unfolding trick_of
trick_of-short [] short = refl
trick_of-short (a ∷ []) short = refl
trick_of-short (a ∷ b ∷ []) short = refl
trick_of-short (a ∷ b ∷ c ∷ []) short = refl
trick_of-short (a ∷ b ∷ c ∷ d ∷ rest) short = absurd (omega arith)

pub leader_after-short : (trump : Trump) (leader : Seat) (cards : List Card) → length cards < 4 → leader_after trump leader cards ≡ leader
unfolding leader_after
leader_after-short trump leader [] short = refl
leader_after-short trump leader (a ∷ []) short = refl
leader_after-short trump leader (a ∷ b ∷ []) short = refl
leader_after-short trump leader (a ∷ b ∷ c ∷ []) short = refl
leader_after-short trump leader (a ∷ b ∷ c ∷ d ∷ rest) short = absurd (omega arith)

pub seat_to_play-short : (opening : Opening) (cards : List Card) → length cards < 4 → seat_to_play opening cards ≡ seat_in_place opening.leader (length cards)
seat_to_play-short opening cards short =
    rw (leader_after-short opening.trump opening.leader cards short, trick_of-short cards short) refl

pub suit_of_first-short : (cards : List Card) → length cards < 4 → suit_of_first (trick_of cards) ≡ suit_of_first cards
suit_of_first-short cards short = ap suit_of_first (trick_of-short cards short)

-- a card that does not end its trick
pub record GoesOn (trump : Trump) (leader : Seat) (trick : List Card) (card : Card) : Type 0 where
  pub trick_is : trick_of (trick ++ card ∷ []) ≡ trick ++ card ∷ []
  pub leader_is : leader_after trump leader (trick ++ card ∷ []) ≡ leader
  pub tricks_are : (side : Side) → tricks_of side trump leader (trick ++ card ∷ []) ≡ 0

pub GoesOn-from_short : (trump : Trump) (leader : Seat) (trick : List Card) (card : Card) → length trick < 3 → GoesOn trump leader trick card
unfolding trick_of leader_after tricks_of
GoesOn-from_short trump leader [] card h = record { trick_is = refl; leader_is = refl; tricks_are = λ side. refl }
GoesOn-from_short trump leader (a ∷ []) card h = record { trick_is = refl; leader_is = refl; tricks_are = λ side. refl }
GoesOn-from_short trump leader (a ∷ b ∷ []) card h = record { trick_is = refl; leader_is = refl; tricks_are = λ side. refl }
GoesOn-from_short trump leader (a ∷ b ∷ c ∷ rest) card h = absurd (omega arith)

-- a trick that a fourth card ends
pub record Ends (trump : Trump) (leader : Seat) (first second third card : Card) : Type 0 where
  pub trick_is : trick_of (first ∷ second ∷ third ∷ card ∷ []) ≡ []
  pub leader_is : leader_after trump leader (first ∷ second ∷ third ∷ card ∷ []) ≡ winner_of trump leader (trick_made first second third card)
  pub tricks_are : (side : Side) → tricks_of side trump leader (first ∷ second ∷ third ∷ card ∷ []) ≡ cond (is_same_side (side_of (winner_of trump leader (trick_made first second third card))) side) 1 0

pub Ends-from_four : (trump : Trump) (leader : Seat) (first second third card : Card) → Ends trump leader first second third card
unfolding trick_of leader_after tricks_of
Ends-from_four trump leader first second third card = record { trick_is = refl; leader_is = refl; tricks_are = λ side. omega arith }

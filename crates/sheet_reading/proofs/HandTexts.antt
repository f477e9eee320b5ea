-- What is shown of a hand is read as it is.
use Rattle.std.proofs.Common.{◌≡◌, ◌≢◌, ℕ, ◌<◌, ◌≤◌, ◌^◌, Bool, true, false, cond, List, [], ◌∷◌, ◌++◌, refl, ◌∙◌, arith}
use Rattle.std.specs.Prelude.{codes}
use Rattle.std.specs.List.{flat_map}
use Rattle.std.specs.Fmt.{decimal}
use Rattle.cards.specs.declared.seats.Seat.{Seat}
use Rattle.cards.specs.declared.seats.Seat.TheVariants.{North, East, South, West}
use Rattle.cards.specs.declared.suits.Suit.{Suit}
use Rattle.cards.specs.declared.suits.Suit.TheVariants.{Spades, Hearts, Diamonds, Clubs}
use Rattle.cards.specs.declared.pack.Rank.{Rank}
use Rattle.cards.specs.declared.pack.Rank.TheVariants.{Two, Three, Four, Five, Six, Seven, Eight, Nine, Ten, Jack}
use Rattle.cards.specs.declared.pack.Rank.TheVariants.{Queen, King, Ace}
use Rattle.cards.specs.Seats.{seat_letter}
use Rattle.cards.specs.Pack.{card_of}
use Rattle.cards.specs.Deal.{Deal, holder_of, is_held_by}
use Rattle.sheet_reading.specs.Pages.{resolved}
use Rattle.html.specs.Values.{value_text}
use Rattle.html.proofs.Each.{Each, each-append}
use Rattle.sheets.specs.HandText.{rank_shown, ranks_falling, card_shown, cards_shown, holding_shown, is_void, suit_points, points_of, hand_place, hand_value_at, hand_value}
use Rattle.sheets.proofs.HandLemmas.{hand-text}
use Rattle.sheet_reading.proofs.SaidTexts.{read-as, decimal-free}

abbrev Free : List ℕ → Type 0
Free text = Each (λ byte. byte ≢ 38) text

greater : (byte : ℕ) → 38 < byte → byte ≢ 38
greater byte h e = omega (arith, h, e)

rank-free : (rank : Rank) → Free (rank_shown rank)
rank-free Two = (greater 50 (omega arith), tt)
rank-free Three = (greater 51 (omega arith), tt)
rank-free Four = (greater 52 (omega arith), tt)
rank-free Five = (greater 53 (omega arith), tt)
rank-free Six = (greater 54 (omega arith), tt)
rank-free Seven = (greater 55 (omega arith), tt)
rank-free Eight = (greater 56 (omega arith), tt)
rank-free Nine = (greater 57 (omega arith), tt)
rank-free Ten = (greater 49 (omega arith), (greater 48 (omega arith), tt))
rank-free Jack = (greater 74 (omega arith), tt)
rank-free Queen = (greater 81 (omega arith), tt)
rank-free King = (greater 75 (omega arith), tt)
rank-free Ace = (greater 65 (omega arith), tt)

card-free : (rank : Rank) (held : Bool) → Free (cond held (rank_shown rank) [])
card-free rank true = rank-free rank
card-free rank false = tt

cards-free : (deal : Deal) (seat : Seat) (suit : Suit) (ranks : List Rank) → Free (flat_map (card_shown deal seat suit) ranks)
cards-free deal seat suit [] = tt
cards-free deal seat suit (rank ∷ ranks) =
    each-append (λ byte. byte ≢ 38) (card_shown deal seat suit rank) (flat_map (card_shown deal seat suit) ranks)
    (card-free rank (is_held_by seat (holder_of deal (card_of suit rank)))) (cards-free deal seat suit ranks)

holding-free : (deal : Deal) (seat : Seat) (suit : Suit) (void : Bool) →
    Free (cond void (0xE2 ∷ 0x80 ∷ 0x93 ∷ []) (cards_shown deal seat suit))
holding-free deal seat suit true =
    (greater 0xE2 (omega arith), (greater 0x80 (omega arith), (greater 0x93 (omega arith), tt)))
holding-free deal seat suit false = cards-free deal seat suit ranks_falling

-- ---- points
few-if : (held : Bool) (points : ℕ) → cond held points 0 ≤ points
few-if true points = omega arith
few-if false points = omega arith

few : (deal : Deal) (seat : Seat) (suit : Suit) → suit_points deal seat suit ≤ 10
few deal seat suit =
    let held : Rank → Bool = λ rank. is_held_by seat (holder_of deal (card_of suit rank)) in
    omega (arith, few-if (held Ace) 4, few-if (held King) 3, few-if (held Queen) 2, few-if (held Jack) 1)

points-few : (deal : Deal) (seat : Seat) → points_of deal seat < 2 ^ 64
points-few deal seat =
    omega (arith, few deal seat Spades, few deal seat Hearts, few deal seat Diamonds, few deal seat Clubs)

-- ---- any of the places
letter-free : (seat : Seat) → Free (seat_letter seat)
letter-free North = (greater 78 (omega arith), tt)
letter-free East = (greater 69 (omega arith), tt)
letter-free South = (greater 83 (omega arith), tt)
letter-free West = (greater 87 (omega arith), tt)

pub letter-read : (deal : Deal) (seat : Seat) →
    resolved (value_text (hand_value deal seat (codes "seat")) ++ []) ≡ seat_letter seat
letter-read deal seat =
    let place = hand_place (codes "seat") in
    read-as (hand_value deal seat (codes "seat")) (seat_letter seat) (hand-text deal seat (codes "seat") place place refl refl)
    (letter-free seat)

pub points-read : (deal : Deal) (seat : Seat) →
    resolved (value_text (hand_value deal seat (codes "points")) ++ []) ≡ decimal (points_of deal seat)
points-read deal seat =
    let place = hand_place (codes "points") in
    read-as (hand_value deal seat (codes "points")) (decimal (points_of deal seat))
    (hand-text deal seat (codes "points") place place refl refl) (decimal-free (points_of deal seat) (points-few deal seat))

-- the name of the place for a suit's cards
abbrev pub suit_place : Suit → List ℕ
suit_place Spades = codes "spades"
suit_place Hearts = codes "hearts"
suit_place Diamonds = codes "diamonds"
suit_place Clubs = codes "clubs"

holding-is : (deal : Deal) (seat : Seat) (suit : Suit) →
    hand_value_at deal seat (hand_place (suit_place suit)) ≡ holding_shown deal seat suit
holding-is deal seat Spades = refl
holding-is deal seat Hearts = refl
holding-is deal seat Diamonds = refl
holding-is deal seat Clubs = refl

pub holding-read : (deal : Deal) (seat : Seat) (suit : Suit) →
    resolved (value_text (hand_value deal seat (suit_place suit)) ++ []) ≡ holding_shown deal seat suit
holding-read deal seat suit =
    let place = hand_place (suit_place suit) in
    read-as (hand_value deal seat (suit_place suit)) (holding_shown deal seat suit)
    (hand-text deal seat (suit_place suit) place place refl refl ∙ holding-is deal seat suit)
    (holding-free deal seat suit (is_void deal seat suit))

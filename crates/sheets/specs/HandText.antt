-- What a sheet shows of a hand: the letter of its seat, for each suit its cards, the ranks falling, and its honour
-- points.
use Rattle.std.specs.Prelude.{ℕ, ◌+◌, Bool, not, List, [], ◌∷◌, codes, if◌then◌else◌, bytes_eq, Option, None, Some}
use Rattle.std.specs.List.{flat_map, list_all}
use Rattle.std.specs.Fmt.{decimal}
use Rattle.cards.specs.declared.seats.Seat.{Seat}
use Rattle.cards.specs.declared.suits.Suit.{Suit}
use Rattle.cards.specs.declared.suits.Suit.TheVariants.{Spades, Hearts, Diamonds, Clubs}
use Rattle.cards.specs.declared.pack.Rank.{Rank}
use Rattle.cards.specs.declared.pack.Rank.TheVariants.{Two, Three, Four, Five, Six, Seven, Eight, Nine, Ten, Jack}
use Rattle.cards.specs.declared.pack.Rank.TheVariants.{Queen, King, Ace}
use Rattle.cards.specs.Seats.{seat_letter}
use Rattle.cards.specs.Pack.{card_of}
use Rattle.cards.specs.Deal.{Deal, holder_of, is_held_by}
use Rattle.sheets.specs.declared.hands.HandPlace.{HandPlace}
use Rattle.sheets.specs.declared.hands.HandPlace.TheVariants.{Letter, Holding, Points}

-- a rank as players write it
abbrev pub rank_shown : Rank → List ℕ
rank_shown Two = codes "2"
rank_shown Three = codes "3"
rank_shown Four = codes "4"
rank_shown Five = codes "5"
rank_shown Six = codes "6"
rank_shown Seven = codes "7"
rank_shown Eight = codes "8"
rank_shown Nine = codes "9"
rank_shown Ten = codes "10"
rank_shown Jack = codes "J"
rank_shown Queen = codes "Q"
rank_shown King = codes "K"
rank_shown Ace = codes "A"

-- the ranks, the ace first
abbrev pub ranks_falling : List Rank
ranks_falling = Ace ∷ King ∷ Queen ∷ Jack ∷ Ten ∷ Nine ∷ Eight ∷ Seven ∷ Six ∷ Five ∷ Four ∷ Three ∷ Two ∷ []

-- of a card that the seat holds its rank, and nothing of another
abbrev pub card_shown : Deal → Seat → Suit → Rank → List ℕ
card_shown deal seat suit rank =
    if is_held_by seat (holder_of deal (card_of suit rank)) then rank_shown rank else []

abbrev pub cards_shown : Deal → Seat → Suit → List ℕ
cards_shown deal seat suit = flat_map (card_shown deal seat suit) ranks_falling

-- whether the seat has no card of the suit
abbrev pub is_void : Deal → Seat → Suit → Bool
is_void deal seat suit =
    list_all (λ rank. not (is_held_by seat (holder_of deal (card_of suit rank)))) ranks_falling

-- the cards, or a dash (U+2013)
abbrev pub holding_shown : Deal → Seat → Suit → List ℕ
holding_shown deal seat suit =
    if is_void deal seat suit then 0xE2 ∷ 0x80 ∷ 0x93 ∷ [] else cards_shown deal seat suit

-- ---- honour points: ace 4, king 3, queen 2, jack 1
-- so many points if the seat holds the card
abbrev pub points_if : Deal → Seat → Suit → Rank → ℕ → ℕ
points_if deal seat suit rank points = if is_held_by seat (holder_of deal (card_of suit rank)) then points else 0

abbrev pub suit_points : Deal → Seat → Suit → ℕ
suit_points deal seat suit =
    points_if deal seat suit Ace 4 + points_if deal seat suit King 3
    + points_if deal seat suit Queen 2 + points_if deal seat suit Jack 1

abbrev pub points_of : Deal → Seat → ℕ
points_of deal seat =
    suit_points deal seat Spades + suit_points deal seat Hearts
    + suit_points deal seat Diamonds + suit_points deal seat Clubs

-- ---- the places of a hand's template
abbrev pub hand_place : List ℕ → Option HandPlace
hand_place name =
    if bytes_eq name (codes "seat") then Some Letter else
    (if bytes_eq name (codes "spades") then Some (Holding Spades) else
    (if bytes_eq name (codes "hearts") then Some (Holding Hearts) else
    (if bytes_eq name (codes "diamonds") then Some (Holding Diamonds) else
    (if bytes_eq name (codes "clubs") then Some (Holding Clubs) else
    (if bytes_eq name (codes "points") then Some Points else
    None)))))

abbrev pub hand_value_at : Deal → Seat → Option HandPlace → List ℕ
hand_value_at deal seat (Some Letter) = seat_letter seat
hand_value_at deal seat (Some (Holding suit)) = holding_shown deal seat suit
hand_value_at deal seat (Some Points) = decimal (points_of deal seat)
hand_value_at deal seat None = []

abbrev pub hand_value : Deal → Seat → List ℕ → List ℕ
hand_value deal seat name = hand_value_at deal seat (hand_place name)

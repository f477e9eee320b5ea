-- What is shown of a hand stands in a page as it is.
use Rattle.std.proofs.Common.{◌≡◌, ℕ, ◌<◌, ◌≤◌, ◌^◌, Bool, true, false, cond, List, [], ◌∷◌, Option, None, Some, refl, sym, ◌∙◌, ap, arith}
use Rattle.std.specs.List.{flat_map}
use Rattle.std.specs.Str.{chars, is_utf8}
use Rattle.std.proofs.Math.Utf8.{encode}
use Rattle.cards.specs.declared.seats.Seat.{Seat}
use Rattle.cards.specs.declared.seats.Seat.TheVariants.{North, East, South, West}
use Rattle.cards.specs.declared.suits.Suit.{Suit}
use Rattle.cards.specs.declared.suits.Suit.TheVariants.{Spades, Hearts, Diamonds, Clubs}
use Rattle.cards.specs.declared.pack.Rank.{Rank}
use Rattle.cards.specs.declared.pack.Rank.TheVariants.{Two, Three, Four, Five, Six, Seven, Eight, Nine, Ten, Jack}
use Rattle.cards.specs.declared.pack.Rank.TheVariants.{Queen, King, Ace}
use Rattle.cards.specs.Seats.{seat_letter}
use Rattle.cards.specs.Pack.{card_of}
use Rattle.cards.specs.Deal.{Deal, holder_of, is_held_by}
use Rattle.html.specs.Values.{value_text}
use Rattle.html.specs.Plain.{is_plain}
use Rattle.html.proofs.PlainTexts.{plain-stays}
use Rattle.sheets.specs.declared.hands.HandPlace.{HandPlace}
use Rattle.sheets.specs.declared.hands.HandPlace.TheVariants.{Letter, Holding, Points}
use Rattle.sheets.specs.HandText.{rank_shown, ranks_falling, card_shown, cards_shown, is_void, suit_points, points_of, hand_place, hand_value_at, hand_value}
use Rattle.sheets.proofs.PlainTexts.{plain-append, decimal-stays, nothing-stays}

rank-plain : (rank : Rank) → is_plain (rank_shown rank) ≡ true
rank-plain Two = refl
rank-plain Three = refl
rank-plain Four = refl
rank-plain Five = refl
rank-plain Six = refl
rank-plain Seven = refl
rank-plain Eight = refl
rank-plain Nine = refl
rank-plain Ten = refl
rank-plain Jack = refl
rank-plain Queen = refl
rank-plain King = refl
rank-plain Ace = refl

card-plain : (rank : Rank) (held : Bool) → is_plain (cond held (rank_shown rank) []) ≡ true
card-plain rank true = rank-plain rank
card-plain rank false = refl

cards-plain : (deal : Deal) (seat : Seat) (suit : Suit) (ranks : List Rank) →
    is_plain (flat_map (card_shown deal seat suit) ranks) ≡ true
cards-plain deal seat suit [] = refl
cards-plain deal seat suit (rank ∷ ranks) =
    plain-append (card_shown deal seat suit rank) (flat_map (card_shown deal seat suit) ranks)
    (card-plain rank (is_held_by seat (holder_of deal (card_of suit rank)))) (cards-plain deal seat suit ranks)

dash-stays : value_text (0xE2 ∷ 0x80 ∷ 0x93 ∷ []) ≡ 0xE2 ∷ 0x80 ∷ 0x93 ∷ []
unfolding value_text is_utf8 chars encode
dash-stays = refl

holding-stays : (deal : Deal) (seat : Seat) (suit : Suit) (void : Bool) →
    value_text (cond void (0xE2 ∷ 0x80 ∷ 0x93 ∷ []) (cards_shown deal seat suit))
    ≡ cond void (0xE2 ∷ 0x80 ∷ 0x93 ∷ []) (cards_shown deal seat suit)
holding-stays deal seat suit true = dash-stays
holding-stays deal seat suit false =
    plain-stays (cards_shown deal seat suit) (cards-plain deal seat suit ranks_falling)

-- ---- points
few-if : (held : Bool) (points : ℕ) → cond held points 0 ≤ points
few-if true points = omega arith
few-if false points = omega arith

few : (deal : Deal) (seat : Seat) (suit : Suit) → suit_points deal seat suit ≤ 10
few deal seat suit =
    let held : Rank → Bool = λ rank. is_held_by seat (holder_of deal (card_of suit rank)) in
    omega (arith, few-if (held Ace) 4, few-if (held King) 3, few-if (held Queen) 2, few-if (held Jack) 1)

points-few : (deal : Deal) (seat : Seat) → points_of deal seat < 2 ^ 64
points-few deal seat =
    omega (arith, few deal seat Spades, few deal seat Hearts, few deal seat Diamonds, few deal seat Clubs)

-- ---- all places
letter-plain : (seat : Seat) → is_plain (seat_letter seat) ≡ true
letter-plain North = refl
letter-plain East = refl
letter-plain South = refl
letter-plain West = refl

hand-stays : (deal : Deal) (seat : Seat) (place : Option HandPlace) →
    value_text (hand_value_at deal seat place) ≡ hand_value_at deal seat place
hand-stays deal seat (Some Letter) = plain-stays (seat_letter seat) (letter-plain seat)
hand-stays deal seat (Some (Holding suit)) = holding-stays deal seat suit (is_void deal seat suit)
hand-stays deal seat (Some Points) = decimal-stays (points_of deal seat) (points-few deal seat)
hand-stays deal seat None = nothing-stays

pub hand-text : (deal : Deal) (seat : Seat) (name : List ℕ) (found place : Option HandPlace) →
    found ≡ hand_place name → found ≡ place → value_text (hand_value deal seat name) ≡ hand_value_at deal seat place
hand-text deal seat name found place is same =
    ap (λ p. value_text (hand_value_at deal seat p)) (sym is ∙ same) ∙ hand-stays deal seat place

-- What is read of a board's facts and hands.
use Rattle.std.proofs.Common.{◌≡◌, ℕ, Bool, true, false, List, [], ◌∷◌, ◌++◌, map, Option, None, Some, refl, ◌∙◌, ap, subst, append_assoc}
use Rattle.std.specs.Prelude.{codes}
use Rattle.std.specs.Fmt.{decimal}
use Rattle.std.proofs.lemmas.List.{append-nil}
use Rattle.cards.specs.declared.seats.Seat.{Seat}
use Rattle.cards.specs.declared.seats.Seat.TheVariants.{North, East, South, West}
use Rattle.cards.specs.declared.suits.Suit.TheVariants.{Spades, Hearts, Diamonds, Clubs}
use Rattle.cards.specs.Deal.{Deal}
use Rattle.par.specs.declared.vulnerable_sides.VulnerableSides.{VulnerableSides}
use Rattle.par.specs.declared.vulnerable_sides.VulnerableSides.TheVariants.{Neither, NorthSouth, EastWest, Both}
use Rattle.board_conditions.specs.declared.conditions.Conditions.{Conditions}
use Rattle.cards.specs.Seats.{seat_letter}
use Rattle.sheets.specs.HandText.{holding_shown, points_of}
use Rattle.sheets.specs.Facts.{is_dealer, is_exposed}
use Rattle.sheet_reading.specs.Elements.{Piece, elements, text_in}
use Rattle.sheet_reading.specs.SheetReading.{suit_sign, texts_of, Corner, corner_in, corners_in}
use Rattle.sheet_reading.specs.Laws.{dealer_said, sides_said, facts_said, corner_said, compass_said, hand_said, hands_said}
use Rattle.sheet_reading.proofs.ElementLemmas.{lacks, Yields, yields-append, lacks-append}
use Rattle.sheet_reading.proofs.Names.{whole-element}
use Rattle.sheet_reading.proofs.TemplatePieces.{piece_with, seat_words, facts_start, facts_end, deal_tag, compass_tag, hand_pieces}
use Rattle.sheet_reading.proofs.BoardChunks.{dealer_in, sides_in, words_in, seats_in, compass_in, facts_in, hand_in, hands_in}

-- ---- facts
abbrev TextsOf : List ℕ → List Piece → List (List ℕ) → Type 0
TextsOf name pieces texts = (found : List (List Piece)) × Yields name pieces found × (map text_in found ≡ texts)

map-append : {A B : Type 0} (f : A → B) (one other : List A) → map f (one ++ other) ≡ map f one ++ map f other
map-append f [] other = refl
map-append f (first ∷ one) other = ap (λ t. f first ∷ t) (map-append f one other)

texts-append : (name : List ℕ) (one other : List Piece) (texts more : List (List ℕ)) → TextsOf name one texts →
    TextsOf name other more → TextsOf name (one ++ other) (texts ++ more)
texts-append name one other texts more (found, h, is) (others, k, are) = (
  found ++ others,
  yields-append name one other found others h k,
  map-append text_in found others ∙ (ap (λ t. t ++ map text_in others) is ∙ ap (λ t. texts ++ t) are),
)

dealer-texts : (dealer : Option Seat) → TextsOf (codes "p") (dealer_in dealer) (dealer_said dealer)
dealer-texts None = (_, record { closed = refl; are = refl }, refl)
dealer-texts (Some North) = (_, record { closed = refl; are = refl }, refl)
dealer-texts (Some East) = (_, record { closed = refl; are = refl }, refl)
dealer-texts (Some South) = (_, record { closed = refl; are = refl }, refl)
dealer-texts (Some West) = (_, record { closed = refl; are = refl }, refl)

sides-texts : (sides : Option VulnerableSides) → TextsOf (codes "p") (sides_in sides) (sides_said sides)
sides-texts None = (_, record { closed = refl; are = refl }, refl)
sides-texts (Some Neither) = (_, record { closed = refl; are = refl }, refl)
sides-texts (Some NorthSouth) = (_, record { closed = refl; are = refl }, refl)
sides-texts (Some EastWest) = (_, record { closed = refl; are = refl }, refl)
sides-texts (Some Both) = (_, record { closed = refl; are = refl }, refl)

pub words-texts : (conditions : Conditions) → texts_of (codes "p") (facts_start ∷ words_in conditions) ≡ facts_said conditions
words-texts conditions =
    let (found, h, is) = texts-append (codes "p") (dealer_in conditions.dealer) (sides_in conditions.vulnerable)
    (dealer_said conditions.dealer) (sides_said conditions.vulnerable) (dealer-texts conditions.dealer)
    (sides-texts conditions.vulnerable) in
    ap (map text_in) h.are ∙ is

dealer-lacks : (dealer : Option Seat) → lacks (codes "/div") (dealer_in dealer) ≡ true
dealer-lacks None = refl
dealer-lacks (Some dealer) = refl

sides-lack : (sides : Option VulnerableSides) → lacks (codes "/div") (sides_in sides) ≡ true
sides-lack None = refl
sides-lack (Some sides) = refl

pub words-lack : (conditions : Conditions) → lacks (codes "/div") (words_in conditions) ≡ true
words-lack conditions =
    lacks-append (codes "/div") (dealer_in conditions.dealer) (sides_in conditions.vulnerable)
    (dealer-lacks conditions.dealer) (sides-lack conditions.vulnerable)

-- ---- the divisions of the facts and the compass
dealer-begins-none : (dealer : Option Seat) → lacks (codes "div") (dealer_in dealer) ≡ true
dealer-begins-none None = refl
dealer-begins-none (Some dealer) = refl

sides-begin-none : (sides : Option VulnerableSides) → lacks (codes "div") (sides_in sides) ≡ true
sides-begin-none None = refl
sides-begin-none (Some sides) = refl

words-begin-none : (conditions : Conditions) → lacks (codes "div") (words_in conditions) ≡ true
words-begin-none conditions =
    lacks-append (codes "div") (dealer_in conditions.dealer) (sides_in conditions.vulnerable)
    (dealer-begins-none conditions.dealer) (sides-begin-none conditions.vulnerable)

abbrev pub compass_content : Conditions → List Piece
compass_content conditions = compass_tag ∷ seats_in conditions

abbrev pub divisions_in : Conditions → List (List Piece)
divisions_in conditions =
    (facts_start ∷ words_in conditions) ∷ (deal_tag ∷ compass_content conditions) ∷ compass_content conditions ∷ []

pub divisions-yield : (conditions : Conditions) → Yields (codes "div") (facts_in conditions) (divisions_in conditions)
divisions-yield conditions =
    let words = words_in conditions in
    let compass = compass_in conditions in
    let first : Yields (codes "div") (facts_start ∷ (words ++ facts_end ∷ [])) ((facts_start ∷ words) ∷ []) =
    whole-element (codes "div") facts_start facts_end words refl refl refl (words-begin-none conditions) (words-lack conditions) in
    let others : Yields (codes "div") compass ((deal_tag ∷ compass_content conditions) ∷ compass_content conditions ∷ []) =
    record { closed = refl; are = refl } in
    subst (λ (l : List Piece). Yields (codes "div") (facts_start ∷ l) (divisions_in conditions))
    (append_assoc words (facts_end ∷ []) compass)
    (yields-append (codes "div") (facts_start ∷ (words ++ facts_end ∷ [])) compass ((facts_start ∷ words) ∷ [])
    ((deal_tag ∷ compass_content conditions) ∷ compass_content conditions ∷ []) first others)

-- ---- the compass
corner-read : (deals exposed : Bool) (seat : Seat) →
    corner_in (piece_with (seat_words deals exposed) (codes "span") (seat_letter seat) ∷ [])
    ≡ record { seat = seat_letter seat; deals = deals; exposed = exposed } ∷ []
corner-read false false North = refl
corner-read false false East = refl
corner-read false false South = refl
corner-read false false West = refl
corner-read true false North = refl
corner-read true false East = refl
corner-read true false South = refl
corner-read true false West = refl
corner-read false true North = refl
corner-read false true East = refl
corner-read false true South = refl
corner-read false true West = refl
corner-read true true North = refl
corner-read true true East = refl
corner-read true true South = refl
corner-read true true West = refl

abbrev seat_read : Conditions → Seat → List Corner
seat_read conditions seat =
    corner_in (piece_with (seat_words (is_dealer conditions.dealer seat) (is_exposed conditions.vulnerable seat)) (codes "span")
    (seat_letter seat) ∷ [])

seat-read : (conditions : Conditions) (seat : Seat) → seat_read conditions seat ≡ corner_said conditions seat ∷ []
seat-read conditions seat = corner-read (is_dealer conditions.dealer seat) (is_exposed conditions.vulnerable seat) seat

all-four : (a b c d a' b' c' d' : List Corner) → a ≡ a' → b ≡ b' → c ≡ c' → d ≡ d' →
    a ++ (b ++ (c ++ (d ++ []))) ≡ a' ++ (b' ++ (c' ++ (d' ++ [])))
all-four a b c d a' b' c' d' p q r s =
    ap (λ l. l ++ (b ++ (c ++ (d ++ [])))) p
    ∙ (ap (λ l. a' ++ (l ++ (c ++ (d ++ [])))) q
    ∙ (ap (λ l. a' ++ (b' ++ (l ++ (d ++ [])))) r ∙ ap (λ l. a' ++ (b' ++ (c' ++ (l ++ [])))) s))

pub compass-read : (conditions : Conditions) → corners_in (compass_content conditions) ≡ compass_said conditions
compass-read conditions =
    let read = seat_read conditions in
    let said : Seat → List Corner = λ seat. corner_said conditions seat ∷ [] in
    all-four (read North) (read West) (read East) (read South) (said North) (said West) (said East) (said South)
    (seat-read conditions North) (seat-read conditions West) (seat-read conditions East) (seat-read conditions South)

-- ---- hands
hand-texts : (seat spades hearts diamonds clubs points : List ℕ) →
    map (texts_of (codes "li")) (elements (codes "ul") (hand_pieces seat spades hearts diamonds clubs points))
    ≡ ((seat ++ []) ∷ (suit_sign 0xA0 ++ (spades ++ [])) ∷ (suit_sign 0xA5 ++ (hearts ++ []))
    ∷ (suit_sign 0xA6 ++ (diamonds ++ [])) ∷ (suit_sign 0xA3 ++ (clubs ++ [])) ∷ (points ++ []) ∷ []) ∷ []
hand-texts seat spades hearts diamonds clubs points = refl

hand-said : (seat spades hearts diamonds clubs points : List ℕ) →
    map (texts_of (codes "li")) (elements (codes "ul") (hand_pieces seat spades hearts diamonds clubs points))
    ≡ (seat ∷ (suit_sign 0xA0 ++ spades) ∷ (suit_sign 0xA5 ++ hearts) ∷ (suit_sign 0xA6 ++ diamonds)
    ∷ (suit_sign 0xA3 ++ clubs) ∷ points ∷ []) ∷ []
hand-said seat spades hearts diamonds clubs points =
    hand-texts seat spades hearts diamonds clubs points
    ∙ rw (append-nil seat, append-nil spades, append-nil hearts, append-nil diamonds, append-nil clubs, append-nil points) refl

abbrev HandsOf : List Piece → List (List (List ℕ)) → Type 0
HandsOf pieces hands = (found : List (List Piece)) × Yields (codes "ul") pieces found × (map (texts_of (codes "li")) found ≡ hands)

hands-append : (one other : List Piece) (hands more : List (List (List ℕ))) → HandsOf one hands → HandsOf other more →
    HandsOf (one ++ other) (hands ++ more)
hands-append one other hands more (found, h, is) (others, k, are) = (
  found ++ others,
  yields-append (codes "ul") one other found others h k,
  map-append (texts_of (codes "li")) found others
      ∙ (ap (λ t. t ++ map (texts_of (codes "li")) others) is ∙ ap (λ t. hands ++ t) are),
)

one-hand : (deal : Deal) (seat : Seat) → HandsOf (hand_in deal seat) (hand_said deal seat ∷ [])
one-hand deal seat = (
  _,
  record { closed = refl; are = refl },
  hand-said (seat_letter seat) (holding_shown deal seat Spades) (holding_shown deal seat Hearts)
      (holding_shown deal seat Diamonds) (holding_shown deal seat Clubs) (decimal (points_of deal seat)),
)

pub all-hands : (deal : Deal) → HandsOf (hands_in deal) (hands_said deal)
all-hands deal =
    let hand = hand_in deal in
    let said = hand_said deal in
    hands-append (hand North) (hand East ++ (hand South ++ hand West)) (said North ∷ []) (said East ∷ said South ∷ said West ∷ [])
    (one-hand deal North)
    (hands-append (hand East) (hand South ++ hand West) (said East ∷ []) (said South ∷ said West ∷ []) (one-hand deal East)
    (hands-append (hand South) (hand West) (said South ∷ []) (said West ∷ []) (one-hand deal South) (one-hand deal West)))

-- The pieces of a board's facts, hands, table and par.
use Rattle.std.proofs.Common.{◌≡◌, ℕ, true, List, [], ◌∷◌, ◌++◌, Option, None, Some, refl, ◌∙◌, ap}
use Rattle.std.specs.Prelude.{codes}
use Rattle.std.specs.Fmt.{decimal}
use Rattle.cards.specs.declared.seats.Seat.{Seat}
use Rattle.cards.specs.declared.seats.Seat.TheVariants.{North, East, South, West}
use Rattle.cards.specs.declared.suits.Suit.TheVariants.{Spades, Hearts, Diamonds, Clubs}
use Rattle.cards.specs.Seats.{seat_letter}
use Rattle.cards.specs.Deal.{Deal}
use Rattle.par.specs.declared.vulnerable_sides.VulnerableSides.{VulnerableSides}
use Rattle.par.specs.declared.vulnerable_sides.VulnerableSides.TheVariants.{Neither, NorthSouth, EastWest, Both}
use Rattle.board_conditions.specs.declared.conditions.Conditions.{Conditions}
use Rattle.sheet_reading.specs.Pages.{resolved}
use Rattle.html.specs.Values.{value_text}
use Rattle.html.specs.Plain.{is_plain}
use Rattle.tables.specs.ConditionTags.{sides_shown}
use Rattle.sheets.specs.declared.templates.TheConstants.{FACTS, COMPASS, HANDS}
use Rattle.sheets.specs.HandText.{holding_shown, points_of, hand_value}
use Rattle.sheets.specs.Facts.{dealer_text, vulnerable_text, is_dealer, is_exposed, seat_text, seats_text, words_text, facts_text}
use Rattle.sheets.specs.Boards.{hand_text, hands_text}
use Rattle.sheet_reading.specs.Elements.{Piece}
use Rattle.sheet_reading.proofs.Chunks.{Chunk, chunk-append, chunk-nothing, chunk-as}
use Rattle.sheet_reading.proofs.SaidTexts.{plain-read-as}
use Rattle.sheet_reading.proofs.HandTexts.{letter-read, points-read, holding-read}
use Rattle.sheet_reading.proofs.TemplatePieces.{facts_start, facts-chunk, dealer_pieces, dealer-chunk, sides_pieces, sides-chunk, facts_end, compass_start, compass-chunk, seat_pieces, seat-chunk, compass_end, compass_end-chunk, hand_pieces, value_read, hand-chunk}

-- ---- the bidding
pub letter-plain : (seat : Seat) → is_plain (seat_letter seat) ≡ true
letter-plain North = refl
letter-plain East = refl
letter-plain South = refl
letter-plain West = refl

sides-plain : (sides : VulnerableSides) → is_plain (sides_shown sides) ≡ true
sides-plain Neither = refl
sides-plain NorthSouth = refl
sides-plain EastWest = refl
sides-plain Both = refl

abbrev pub dealer_in : Option Seat → List Piece
dealer_in None = []
dealer_in (Some dealer) = dealer_pieces (seat_letter dealer)

dealer_in-chunk : (dealer : Option Seat) → Chunk (dealer_text dealer) (dealer_in dealer)
dealer_in-chunk None = chunk-nothing
dealer_in-chunk (Some dealer) =
    chunk-as (dealer_text (Some dealer)) (dealer_pieces (resolved (value_text (seat_letter dealer) ++ [])))
    (dealer_pieces (seat_letter dealer)) (ap dealer_pieces (plain-read-as (seat_letter dealer) (letter-plain dealer)))
    (dealer-chunk (seat_letter dealer))

abbrev pub sides_in : Option VulnerableSides → List Piece
sides_in None = []
sides_in (Some sides) = sides_pieces (sides_shown sides)

sides_in-chunk : (sides : Option VulnerableSides) → Chunk (vulnerable_text sides) (sides_in sides)
sides_in-chunk None = chunk-nothing
sides_in-chunk (Some sides) =
    chunk-as (vulnerable_text (Some sides)) (sides_pieces (resolved (value_text (sides_shown sides) ++ [])))
    (sides_pieces (sides_shown sides)) (ap sides_pieces (plain-read-as (sides_shown sides) (sides-plain sides)))
    (sides-chunk (sides_shown sides))

abbrev pub words_in : Conditions → List Piece
words_in conditions = dealer_in conditions.dealer ++ sides_in conditions.vulnerable

words-chunk : (conditions : Conditions) → Chunk (words_text conditions) (words_in conditions)
unfolding words_text
words-chunk conditions =
    chunk-append (dealer_text conditions.dealer) (vulnerable_text conditions.vulnerable)
    (dealer_in conditions.dealer) (sides_in conditions.vulnerable)
    (dealer_in-chunk conditions.dealer) (sides_in-chunk conditions.vulnerable)

-- ---- the compass
abbrev pub seat_in : Conditions → Seat → List Piece
seat_in conditions seat =
    seat_pieces (is_dealer conditions.dealer seat) (is_exposed conditions.vulnerable seat) (seat_letter seat)

seat_in-chunk : (conditions : Conditions) (seat : Seat) → Chunk (seat_text conditions seat) (seat_in conditions seat)
seat_in-chunk conditions seat =
    let deals = is_dealer conditions.dealer seat in
    let exposed = is_exposed conditions.vulnerable seat in
    chunk-as (seat_text conditions seat) (seat_pieces deals exposed (resolved (value_text (seat_letter seat) ++ [])))
    (seat_in conditions seat) (ap (seat_pieces deals exposed) (plain-read-as (seat_letter seat) (letter-plain seat)))
    (seat-chunk deals exposed (seat_letter seat))

abbrev pub seats_in : Conditions → List Piece
seats_in conditions =
    seat_in conditions North ++ (seat_in conditions West ++ (seat_in conditions East ++ seat_in conditions South))

seats-chunk : (conditions : Conditions) → Chunk (seats_text conditions) (seats_in conditions)
unfolding seats_text
seats-chunk conditions =
    let text = seat_text conditions in
    let seat = seat_in conditions in
    chunk-append (text North) (text West ++ (text East ++ text South)) (seat North) (seat West ++ (seat East ++ seat South))
    (seat_in-chunk conditions North)
    (chunk-append (text West) (text East ++ text South) (seat West) (seat East ++ seat South) (seat_in-chunk conditions West)
    (chunk-append (text East) (text South) (seat East) (seat South)
    (seat_in-chunk conditions East) (seat_in-chunk conditions South)))

-- from the end of the facts to the first hand
abbrev pub compass_in : Conditions → List Piece
compass_in conditions = compass_start ++ (seats_in conditions ++ compass_end)

abbrev pub facts_in : Conditions → List Piece
facts_in conditions = facts_start ∷ (words_in conditions ++ (facts_end ∷ compass_in conditions))

pub facts_in-chunk : (conditions : Conditions) → Chunk (facts_text conditions) (facts_in conditions)
unfolding facts_text
facts_in-chunk conditions =
    chunk-append FACTS.now (words_text conditions ++ (COMPASS.now ++ (seats_text conditions ++ HANDS.now)))
    (facts_start ∷ []) (words_in conditions ++ (facts_end ∷ compass_in conditions)) facts-chunk
    (chunk-append (words_text conditions) (COMPASS.now ++ (seats_text conditions ++ HANDS.now))
    (words_in conditions) (facts_end ∷ compass_in conditions) (words-chunk conditions)
    (chunk-append COMPASS.now (seats_text conditions ++ HANDS.now) (facts_end ∷ compass_start)
    (seats_in conditions ++ compass_end)
    compass-chunk
    (chunk-append (seats_text conditions) HANDS.now (seats_in conditions) compass_end (seats-chunk conditions) compass_end-chunk)))

-- ---- the hands
abbrev pub hand_in : Deal → Seat → List Piece
hand_in deal seat =
    hand_pieces (seat_letter seat) (holding_shown deal seat Spades) (holding_shown deal seat Hearts)
    (holding_shown deal seat Diamonds) (holding_shown deal seat Clubs) (decimal (points_of deal seat))

hand-same : (a b c d e f a' b' c' d' e' f' : List ℕ) → a ≡ a' → b ≡ b' → c ≡ c' → d ≡ d' → e ≡ e' → f ≡ f' →
    hand_pieces a b c d e f ≡ hand_pieces a' b' c' d' e' f'
hand-same a b c d e f a' b' c' d' e' f' p q r s t u =
    ap (λ x. hand_pieces x b c d e f) p
    ∙ (ap (λ x. hand_pieces a' x c d e f) q
    ∙ (ap (λ x. hand_pieces a' b' x d e f) r
    ∙ (ap (λ x. hand_pieces a' b' c' x e f) s
    ∙ (ap (λ x. hand_pieces a' b' c' d' x f) t ∙ ap (λ x. hand_pieces a' b' c' d' e' x) u))))

hand_in-chunk : (deal : Deal) (seat : Seat) → Chunk (hand_text deal seat) (hand_in deal seat)
hand_in-chunk deal seat =
    let values = hand_value deal seat in
    chunk-as (hand_text deal seat)
    (hand_pieces (value_read values (codes "seat")) (value_read values (codes "spades")) (value_read values (codes "hearts"))
    (value_read values (codes "diamonds")) (value_read values (codes "clubs")) (value_read values (codes "points")))
    (hand_in deal seat)
    (hand-same (value_read values (codes "seat")) (value_read values (codes "spades")) (value_read values (codes "hearts"))
    (value_read values (codes "diamonds")) (value_read values (codes "clubs")) (value_read values (codes "points"))
    (seat_letter seat) (holding_shown deal seat Spades) (holding_shown deal seat Hearts) (holding_shown deal seat Diamonds)
    (holding_shown deal seat Clubs) (decimal (points_of deal seat)) (letter-read deal seat) (holding-read deal seat Spades)
    (holding-read deal seat Hearts) (holding-read deal seat Diamonds) (holding-read deal seat Clubs) (points-read deal seat))
    (hand-chunk values)

abbrev pub hands_in : Deal → List Piece
hands_in deal = hand_in deal North ++ (hand_in deal East ++ (hand_in deal South ++ hand_in deal West))

pub hands_in-chunk : (deal : Deal) → Chunk (hands_text deal) (hands_in deal)
unfolding hands_text
hands_in-chunk deal =
    chunk-append (hand_text deal North) (hand_text deal East ++ (hand_text deal South ++ hand_text deal West))
    (hand_in deal North) (hand_in deal East ++ (hand_in deal South ++ hand_in deal West)) (hand_in-chunk deal North)
    (chunk-append (hand_text deal East) (hand_text deal South ++ hand_text deal West)
    (hand_in deal East) (hand_in deal South ++ hand_in deal West) (hand_in-chunk deal East)
    (chunk-append (hand_text deal South) (hand_text deal West) (hand_in deal South) (hand_in deal West)
    (hand_in-chunk deal South) (hand_in-chunk deal West)))

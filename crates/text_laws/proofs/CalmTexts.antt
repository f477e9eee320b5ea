-- Bytes that end no line and have no meaning of their own.
use Rattle.std.specs.List.{AllByRecursion}
use Rattle.pbn_deals.specs.Lines.{is_line_feed}
use Rattle.std.proofs.Common.{◌≡◌, ◌≢◌, ℕ, ◌≤◌, Bool, true, false, not, ◌&&◌, eqb, List, [], ◌∷◌, ◌++◌, length, refl, arith, inl, inr}
use Rattle.std.specs.Fmt.{decimal}
use Rattle.std.proofs.lemmas.Bool.{cases_Bool, ne_eqb, eqb-false, and_parts, and_from, not-true, le-ltb}
use Rattle.cards.specs.declared.seats.Seat.{Seat}
use Rattle.cards.specs.declared.seats.Seat.TheVariants.{North, East, South, West}
use Rattle.cards.specs.declared.suits.Suit.TheVariants.{Spades, Hearts, Diamonds, Clubs}
use Rattle.cards.specs.declared.suits.Trump.{Trump}
use Rattle.cards.specs.declared.suits.Trump.TheVariants as trump
use Rattle.cards.specs.Pack.{trump_letters}
use Rattle.cards.specs.Seats.{seat_letter}
use Rattle.pbn_deals.specs.Letters.{is_blank}
use Rattle.tables.specs.TablesText.{right_in_two}
use Rattle.text_laws.proofs.LinesBack.{IsTame, IsQuiet}
use Rattle.text_laws.proofs.SmallNumbers.{for_small}

-- no line feed, carriage return, quote, semicolon, bracket or brace
abbrev pub is_calm_byte : ℕ → Bool
is_calm_byte byte = not (eqb byte 10) && (not (eqb byte 13) && (not (eqb byte 34) && (not (eqb byte 59) && (not (eqb byte 91) && not (eqb byte 123)))))

abbrev pub is_calm : List ℕ → Bool
is_calm [] = true
is_calm (byte ∷ bytes) = is_calm_byte byte && is_calm bytes

differs : (byte other : ℕ) → not (eqb byte other) ≡ true → byte ≢ other
differs byte other h e = eqb-false byte other (not-true _ h) e

pub IsTame-from_calm : (text : List ℕ) → is_calm text ≡ true → IsTame text
IsTame-from_calm [] h = tt
IsTame-from_calm (byte ∷ bytes) h =
    let parts = and_parts (is_calm_byte byte) (is_calm bytes) h in
    let one = and_parts (not (eqb byte 10)) _ parts.0 in
    let two = and_parts (not (eqb byte 13)) _ one.1 in
    (differs byte 10 one.0, differs byte 13 two.0, IsTame-from_calm bytes parts.1)

pub IsQuiet-from_calm : (text : List ℕ) → is_calm text ≡ true → IsQuiet text
IsQuiet-from_calm [] h = tt
IsQuiet-from_calm (byte ∷ bytes) h =
    let parts = and_parts (is_calm_byte byte) (is_calm bytes) h in
    let one = and_parts (not (eqb byte 10)) _ parts.0 in
    let two = and_parts (not (eqb byte 13)) _ one.1 in
    let three = and_parts (not (eqb byte 34)) _ two.1 in
    let four = and_parts (not (eqb byte 59)) _ three.1 in
    let five = and_parts (not (eqb byte 91)) _ four.1 in (
      elim (cases_Bool (is_blank byte)) [
        | inl t ↦ inl (rw (ne_eqb byte 59 (differs byte 59 four.0), ne_eqb byte 123 (differs byte 123 five.1), ne_eqb byte 34 (differs byte 34 three.0), ne_eqb byte 91 (differs byte 91 five.0), t) refl)
        | inr f ↦ inr (rw (ne_eqb byte 59 (differs byte 59 four.0), ne_eqb byte 123 (differs byte 123 five.1), ne_eqb byte 34 (differs byte 34 three.0), ne_eqb byte 91 (differs byte 91 five.0), f) refl)
      ],
      IsQuiet-from_calm bytes parts.1,
    )

pub is_calm-append : (one other : List ℕ) → is_calm one ≡ true → is_calm other ≡ true → is_calm (one ++ other) ≡ true
is_calm-append [] other a b = b
is_calm-append (byte ∷ bytes) other a b =
    let parts = and_parts (is_calm_byte byte) (is_calm bytes) a in
    and_from (is_calm_byte byte) (is_calm (bytes ++ other)) parts.0 (is_calm-append bytes other parts.1 b)

-- no quote in the text
abbrev pub NoQuote : List ℕ → Type 0
NoQuote [] = Unit {0}
NoQuote (byte ∷ bytes) = (byte ≢ 34) × NoQuote bytes

-- a text that is calm has no quote
pub calm-no_quote : (text : List ℕ) → is_calm text ≡ true → NoQuote text
calm-no_quote [] h = tt
calm-no_quote (byte ∷ bytes) h =
    let parts = and_parts (is_calm_byte byte) (is_calm bytes) h in
    let one = and_parts (not (eqb byte 10)) _ parts.0 in
    let two = and_parts (not (eqb byte 13)) _ one.1 in
    let three = and_parts (not (eqb byte 34)) _ two.1 in
    (differs byte 34 three.0, calm-no_quote bytes parts.1)

pub seat_letter-calm : (seat : Seat) → is_calm (seat_letter seat) ≡ true
seat_letter-calm North = refl
seat_letter-calm East = refl
seat_letter-calm South = refl
seat_letter-calm West = refl

pub denomination-calm : (denomination : Trump) → is_calm (right_in_two (trump_letters denomination)) ≡ true
denomination-calm trump.Nt = refl
denomination-calm (trump.Suit Spades) = refl
denomination-calm (trump.Suit Hearts) = refl
denomination-calm (trump.Suit Diamonds) = refl
denomination-calm (trump.Suit Clubs) = refl

pub right_in_two-calm : (text : List ℕ) → is_calm text ≡ true → is_calm (right_in_two text) ≡ true
right_in_two-calm [] h = refl
right_in_two-calm (a ∷ []) h = h
right_in_two-calm (a ∷ b ∷ rest) h = rw (le-ltb (length (a ∷ b ∷ rest)) 2 (omega arith)) h

pub decimal-calm : (n : ℕ) → n ≤ 20 → is_calm (decimal n) ≡ true
decimal-calm = for_small (λ n text. is_calm text ≡ true) refl refl refl refl refl refl refl refl refl refl refl refl refl refl refl refl refl refl refl refl refl

-- a text that is calm has no line feed
pub calm-no_feed : (text : List ℕ) → is_calm text ≡ true → AllByRecursion (λ byte. is_line_feed byte ≡ false) text
calm-no_feed [] h = tt
calm-no_feed (byte ∷ bytes) h =
    let parts = and_parts (is_calm_byte byte) (is_calm bytes) h in
    let one = and_parts (not (eqb byte 10)) _ parts.0 in
    (ne_eqb byte 10 (differs byte 10 one.0), calm-no_feed bytes parts.1)

-- The first four lines at the beginning of a text.
use Rattle.std.proofs.Common.{◌≡◌, ◌≢◌, ℕ, ◌+◌, ◌*◌, ◌<◌, ◌≤◌, List, [], ◌∷◌, ◌++◌, length, take, get_or, refl, sym, ◌∙◌, subst, arith, append_assoc, lit≤}
use Rattle.std.specs.Str.Parse.{AllDigits, digits_value}
use Rattle.std.proofs.lemmas.Int.Digits.{digits_value_more}
use Rattle.std.proofs.lemmas.Str.Parse.{digits_value-take-le, digit_at}
use Rattle.std.proofs.lemmas.Str.{digit_value_digit}
use Rattle.cards.specs.declared.seats.Side.{Side}
use Rattle.cards.specs.declared.seats.Side.TheVariants.{NorthSouth, EastWest}
use Rattle.cards.specs.declared.suits.Trump.{Trump}
use Rattle.cards.specs.declared.suits.Trump.TheVariants as trump
use Rattle.cards.specs.declared.suits.Suit.TheVariants.{Spades, Hearts, Diamonds, Clubs}
use Rattle.certificate_graph.specs.declared.versions.Version.{Version}
use Rattle.certificate_graph.specs.declared.versions.Version.TheVariants.{One, Two}
use Rattle.certificate_graph.specs.Texts.{title_text, trump_text, side_text}
use Rattle.certificate_graph.specs.TextFaults.{IsNumber}
use Rattle.certificate_graph.specs.Readings.{StopsDigits, LacksDigits}
use Rattle.certificate_graph.proofs.OneSpelling.{one_digits}
use Rattle.certificate_graph.proofs.LeafLemmas.{LacksByte}

-- ---- titles
pub title_line-cut : (v : Version) (rest : List ℕ) → title_text v rest ≡ title_text v [] ++ rest
title_line-cut v rest = simp append_assoc

pub no_title : (text : List ℕ) → ((rest : List ℕ) → text ≢ title_text One [] ++ rest) → ((rest : List ℕ) → text ≢ title_text Two [] ++ rest) → (version : Version) (rest : List ℕ) → text ≢ title_text version rest
no_title text a b One rest e = a rest (e ∙ title_line-cut One rest)
no_title text a b Two rest e = b rest (e ∙ title_line-cut Two rest)

-- ---- trumps and sides
abbrev pub trump_place : Trump → ℕ
trump_place trump.Nt = 0
trump_place (trump.Suit Spades) = 1
trump_place (trump.Suit Hearts) = 2
trump_place (trump.Suit Diamonds) = 3
trump_place (trump.Suit Clubs) = 4

abbrev pub trumps : List Trump
trumps = trump.Nt ∷ trump.Suit Spades ∷ trump.Suit Hearts ∷ trump.Suit Diamonds ∷ trump.Suit Clubs ∷ []

pub trump_place-lt : (t : Trump) → trump_place t < 5
trump_place-lt trump.Nt = omega arith
trump_place-lt (trump.Suit Spades) = omega arith
trump_place-lt (trump.Suit Hearts) = omega arith
trump_place-lt (trump.Suit Diamonds) = omega arith
trump_place-lt (trump.Suit Clubs) = omega arith

pub trump_at_place : (t : Trump) (i : ℕ) (d : Trump) → trump_place t ≡ i → get_or trumps i d ≡ t
trump_at_place trump.Nt i d e = rw (← e) refl
trump_at_place (trump.Suit Spades) i d e = rw (← e) refl
trump_at_place (trump.Suit Hearts) i d e = rw (← e) refl
trump_at_place (trump.Suit Diamonds) i d e = rw (← e) refl
trump_at_place (trump.Suit Clubs) i d e = rw (← e) refl

pub trump_line-cut : (t : Trump) (rest : List ℕ) → trump_text t rest ≡ trump_text t [] ++ rest
trump_line-cut t rest = simp append_assoc

pub side_line-cut : (s : Side) (rest : List ℕ) → side_text s rest ≡ side_text s [] ++ rest
side_line-cut s rest = simp append_assoc

pub no_side : (text : List ℕ) → ((rest : List ℕ) → text ≢ side_text NorthSouth [] ++ rest) → ((rest : List ℕ) → text ≢ side_text EastWest [] ++ rest) → (side : Side) (rest : List ℕ) → text ≢ side_text side rest
no_side text a b NorthSouth rest e = a rest (e ∙ side_line-cut NorthSouth rest)
no_side text a b EastWest rest e = b rest (e ∙ side_line-cut EastWest rest)

-- ---- the number of nodes
same_digits : (text rest digits after other more : List ℕ) → text ≡ rest → rest ≡ digits ++ after → AllDigits 10 digits → StopsDigits after → IsNumber other → text ≡ other ++ (10 ∷ more) → (digits ≡ other) × (after ≡ 10 ∷ more)
same_digits text rest digits after other more e parts all stops number is =
    one_digits digits other after (10 ∷ more) all number.numeral.1 stops (lit≤ tt) (sym parts ∙ (sym e ∙ is))

pub digits_by_end : (text rest digits after : List ℕ) → text ≡ 110 ∷ 111 ∷ 100 ∷ 101 ∷ 115 ∷ 32 ∷ rest → rest ≡ digits ++ after → AllDigits 10 digits → StopsDigits after → LacksByte 10 after → LacksDigits text
digits_by_end text rest digits after e parts all stops lacks other more begins =
    let same : rest ≡ other ++ (10 ∷ more) = (let h = begins.is in cc) in
    lacks more (same_digits rest rest digits after other more refl parts all stops begins.number same).1

pub digits_by_number : (text rest digits after : List ℕ) → text ≡ 110 ∷ 111 ∷ 100 ∷ 101 ∷ 115 ∷ 32 ∷ rest → rest ≡ digits ++ after → AllDigits 10 digits → StopsDigits after → (IsNumber digits → ⊥) → LacksDigits text
digits_by_number text rest digits after e parts all stops lacks other more begins =
    let same : rest ≡ other ++ (10 ∷ more) = (let h = begins.is in cc) in
    lacks (subst IsNumber (sym (same_digits rest rest digits after other more refl parts all stops begins.number same).0) begins.number)

-- a number of eight digits or more is too large
one_more : (digits : List ℕ) (i : ℕ) → i < length digits → 10 * digits_value 10 (take i digits) ≤ digits_value 10 (take (i + 1) digits)
one_more digits i h = let e = digits_value_more 10 digits i h in omega arith

first_digit : (digits : List ℕ) → AllDigits 10 digits → 0 < length digits → get_or digits 0 0 ≢ 48 → 1 ≤ digits_value 10 (take 1 digits)
first_digit digits all some plain =
    let e = digits_value_more 10 digits 0 some in
    let digit = digit_value_digit (get_or digits 0 0) (digit_at digits 0 all some) in
    let apart : (get_or digits 0 0 ≡ 48) → ⊥ = plain in
    omega (arith, apart)

pub long_is_large : (digits : List ℕ) → IsNumber digits → 7 < length digits → 1000000 < digits_value 10 digits
long_is_large digits number long =
    let plain : get_or digits 0 0 ≢ 48 = (λ e. let one = number.plain e in omega arith) in
    let d1 = first_digit digits number.numeral.1 number.numeral.0 plain in
    let d2 = one_more digits 1 (omega arith) in
    let d3 = one_more digits 2 (omega arith) in
    let d4 = one_more digits 3 (omega arith) in
    let d5 = one_more digits 4 (omega arith) in
    let d6 = one_more digits 5 (omega arith) in
    let d7 = one_more digits 6 (omega arith) in
    let d8 = one_more digits 7 (omega arith) in
    let whole = digits_value-take-le 10 digits 8 (lit≤ tt) in
    omega arith

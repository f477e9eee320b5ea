-- Digits and the numbers that they write.
use Rattle.std.proofs.Common.{◌≡◌, ℕ, zero, suc, ◌+◌, ◌-◌, ◌*◌, ◌^◌, ◌<◌, ◌≤◌, List, [], ◌∷◌, ◌++◌, length, take, drop, get_or, sym, ◌∙◌, ap, subst, arith, lit≤, lit<}
use Rattle.std.specs.Fmt.{decimal}
use Rattle.std.specs.Char.{digit_value}
use Rattle.std.specs.Int.{IsInRange}
use Rattle.std.specs.Str.Parse.{AllDigits, digits_value}
use Rattle.std.proofs.lemmas.Str.Parse.{IsNumeralModel, numerals_by_value, tells_digits, digits_value_short, digits_value-take-le, digit_at}
use Rattle.std.proofs.lemmas.List.{length-take-le, take-append-drop}
use Rattle.std.proofs.lemmas.Str.{digit_value_digit}
use Rattle.std.proofs.lemmas.Int.Digits.{digits_value_more}
use Rattle.std.proofs.lemmas.Fmt.{decimal_is_IsNumeral, decimal-digits_value, decimal_digit, first_decimal, length-decimal-le}
use Rattle.certificate_graph.specs.TextFaults.{IsNumber}
use Rattle.certificate_graph.specs.Readings.{StopsDigits, IsShort, BeginsNumber, len_text}
use Rattle.certificate_graph.proofs.OneSpelling.{one_digits, one_number}

own : IsNumeralModel (AllDigits 10) (digits_value 10)
own = numerals_by_value (AllDigits 10) tells_digits

pub value_short : (digits : List ℕ) → AllDigits 10 digits → length digits ≤ 7 → digits_value 10 digits < 10 ^ 7
value_short digits all few = digits_value_short own digits 7 all few

pub decimal_of_value : (digits : List ℕ) → IsNumber digits → digits_value 10 digits < 2 ^ 64 → decimal (digits_value 10 digits) ≡ digits
decimal_of_value digits number small = decimal-digits_value own digits number.numeral.1 number.numeral.0 number.plain small

plain_decimal : (n : ℕ) → n < 2 ^ 64 → get_or (decimal n) 0 0 ≡ 48 → length (decimal n) ≡ 1
plain_decimal zero h e = ap length (decimal_digit 0 (lit< tt))
plain_decimal (suc n) h e = absurd (omega (arith, first_decimal (suc n) (omega arith) h))

pub decimal_is_number : (n : ℕ) → n < 2 ^ 64 → IsNumber (decimal n)
decimal_is_number n h = record { numeral = (decimal_is_IsNumeral n h).0; plain = plain_decimal n h }

pub value_of_decimal : (n : ℕ) → n < 2 ^ 64 → digits_value 10 (decimal n) ≡ n
value_of_decimal n h = (decimal_is_IsNumeral n h).1

-- what a digit more makes of the value, and that it fits
pub next_value : (digits : List ℕ) (i : ℕ) → AllDigits 10 digits → length digits ≤ 7 → i < length digits → digits_value 10 (take i digits) * 10 + digit_value (get_or digits i 0) < 10 ^ 7
next_value digits i all few within =
    let next = digits_value_more 10 digits i within in
    let le = digits_value-take-le 10 digits (i + 1) (lit≤ tt) in
    let short = value_short digits all few in
    omega arith

pub digit_is : (digits : List ℕ) (i : ℕ) → AllDigits 10 digits → i < length digits → digit_value (get_or digits i 0) + 48 ≡ get_or digits i 0
digit_is digits i all within = digit_value_digit (get_or digits i 0) (digit_at digits i all within)

-- ---- the number at the beginning of a text
pub number_read : (text digits rest : List ℕ) → text ≡ digits ++ rest → StopsDigits rest → IsNumber digits → length digits ≤ 7 → BeginsNumber text (digits_value 10 digits) rest
number_read text digits rest e stops number few =
    let short = value_short digits number.numeral.1 few in
    record {
      short = short;
      stops = stops;
      is = e ∙ ap (λ ds. ds ++ rest) (sym (decimal_of_value digits number (omega arith)));
    }

-- a digit more of at most eight at the beginning of a text
pub record NextDigit (text : List ℕ) (end value : ℕ) : Type 0 where
  pub short : value < 10 ^ 7
  pub low : get_or text end 0 - 48 < 10
  pub more : 10 * value + (get_or text end 0 - 48) ≡ digits_value 10 (take (end + 1) text)

pub next_digit : (text : List ℕ) (end value : ℕ) → end < length text → end ≤ 7 → AllDigits 10 (take end text) → IsInRange 48 57 (get_or text end 0) →
    value ≡ digits_value 10 (take end text) → NextDigit text end value
next_digit text end value within few all digit is =
    let long = length-take-le end text (omega arith) in
    let short = value_short (take end text) all (omega (arith, long)) in
    let next = digits_value_more 10 text end within in
    let same = digit_value_digit (get_or text end 0) digit in
    record { short = omega (arith, short, is); low = omega (arith, digit); more = omega (arith, next, same, is) }

-- the number of the first digits of a text
pub number_begun : (text digits rest : List ℕ) (value end : ℕ) → end ≤ 7 → end ≤ length text → digits ≡ take end text → rest ≡ drop end text →
    value ≡ digits_value 10 (take end text) → StopsDigits (drop end text) → IsNumber digits → BeginsNumber text value rest
number_begun text digits rest value end few within front back is stops number =
    let long = length-take-le end text within in
    let begins = number_read text (take end text) (drop end text) (sym (take-append-drop end text)) stops (subst IsNumber front number) (omega (arith, long)) in
    subst (λ r. BeginsNumber text value r) (sym back) (subst (λ v. BeginsNumber text v (drop end text)) (sym is) begins)

small : (n : ℕ) → IsShort n → n < 2 ^ 64
small n h = omega arith

-- the digits of a text that begins with a number are that number's
pub digits_are : (text digits rest : List ℕ) (n : ℕ) (other : List ℕ) → text ≡ digits ++ rest → AllDigits 10 digits → StopsDigits rest → BeginsNumber text n other → IsNumber digits × (length digits ≤ 7)
digits_are text digits rest n other e all stops begins =
    let fits = small n begins.short in
    let same = one_digits digits (decimal n) rest other all (decimal_is_IsNumeral n fits).0.1 stops begins.stops (sym e ∙ begins.is) in
    let short : length (decimal n) ≤ 7 = length-decimal-le 7 n (lit< tt) begins.short fits in
    (subst IsNumber (sym same.0) (decimal_is_number n fits), rw same.0 short)

-- a digit before a byte
pub digit_text : (digit byte after : ℕ) (rest more : List ℕ) → IsInRange 48 57 digit → byte ≡ after → rest ≡ more → digit ∷ byte ∷ rest ≡ len_text after (digit - 48) more
digit_text digit byte after rest more is same tail =
    let spelled : decimal (digit - 48) ≡ digit ∷ [] = decimal_digit (digit - 48) (omega (arith, is)) ∙ ap (λ n. n ∷ []) (omega (arith, is)) in
    ap (λ b. digit ∷ b ∷ rest) same ∙ (ap (λ r. digit ∷ after ∷ r) tail ∙ ap (λ ds. ds ++ after ∷ more) (sym spelled))

-- a length before a byte, where a number was read
pub len_is : (text : List ℕ) (n byte : ℕ) (rest : List ℕ) (len : ℕ) (more : List ℕ) → BeginsNumber text n rest → 10 ≤ digit_value byte → len ≤ 13 → text ≡ decimal len ++ (byte ∷ more) → (n ≡ len) × (rest ≡ byte ∷ more)
len_is text n byte rest len more begins stops few e =
    let fits = small n begins.short in
    one_number n len rest (byte ∷ more) fits (omega arith) begins.stops stops (sym begins.is ∙ e)

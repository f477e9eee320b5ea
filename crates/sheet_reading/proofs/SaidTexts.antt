-- What is read of a value in a page, and the values that are read as they are.
use Rattle.std.proofs.Common.{◌≡◌, ◌≢◌, ℕ, ◌<◌, ◌^◌, true, List, [], ◌∷◌, ◌++◌, ◌∙◌, ap, arith}
use Rattle.std.specs.Fmt.{decimal}
use Rattle.std.specs.Str.Parse.{AllDigits}
use Rattle.std.proofs.lemmas.Fmt.{decimal_is_IsNumeral}
use Rattle.std.proofs.lemmas.List.{append-nil}
use Rattle.std.proofs.lemmas.Str.Parse.{digit_at}
use Rattle.sheet_reading.specs.Pages.{resolved}
use Rattle.html.specs.Values.{value_text}
use Rattle.html.specs.Plain.{is_plain}
use Rattle.html.proofs.Each.{Each}
use Rattle.html.proofs.PlainTexts.{plain-stays}
use Rattle.sheet_reading.proofs.PlainTexts.{plain-resolved, amp-free-resolved}
use Rattle.sheet_reading.proofs.ValueTexts.{value-resolved}
use Rattle.sheets.proofs.PlainTexts.{decimal-stays}
use Rattle.sheet_reading.specs.Laws.{said}

-- a value that is all of a text
pub value-said : (value : List ℕ) → resolved (value_text value ++ []) ≡ said value
value-said value = ap resolved (append-nil (value_text value)) ∙ value-resolved value

-- a value that stands in a page as this text, which has no `&`
pub read-as : (value text : List ℕ) → value_text value ≡ text → Each (λ byte. byte ≢ 38) text →
    resolved (value_text value ++ []) ≡ text
read-as value text stays free =
    ap resolved (append-nil (value_text value) ∙ stays) ∙ amp-free-resolved text free

pub plain-read-as : (value : List ℕ) → is_plain value ≡ true → resolved (value_text value ++ []) ≡ value
plain-read-as value h = ap resolved (append-nil (value_text value) ∙ plain-stays value h) ∙ plain-resolved value h

-- ---- numbers
digits-free : (text : List ℕ) → AllDigits 10 text → Each (λ byte. byte ≢ 38) text
digits-free [] h = tt
digits-free (byte ∷ bytes) h =
    let range = digit_at (byte ∷ bytes) 0 h (omega arith) in
    ((λ e. omega (arith, range.0, e)), digits-free bytes h.1)

pub decimal-free : (n : ℕ) → n < 2 ^ 64 → Each (λ byte. byte ≢ 38) (decimal n)
decimal-free n h = digits-free (decimal n) (decimal_is_IsNumeral n h).0.1

pub decimal-read : (n : ℕ) → n < 2 ^ 64 → resolved (value_text (decimal n) ++ []) ≡ decimal n
decimal-read n h = read-as (decimal n) (decimal n) (decimal-stays n h) (decimal-free n h)

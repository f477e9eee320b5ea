-- Texts that stand in a page as they are.
use Rattle.std.proofs.Common.{◌≡◌, ◌≢◌, ℕ, ◌<◌, ◌≤◌, ◌^◌, true, not, eqb, List, [], ◌∷◌, ◌++◌, refl, ◌∙◌, arith, nat_le, nat_lt}
use Rattle.std.specs.Prelude.{◌&&◌}
use Rattle.std.specs.Fmt.{decimal}
use Rattle.std.specs.Str.Parse.{AllDigits}
use Rattle.std.proofs.lemmas.Bool.{and_from, not_from_false, ne_eqb, le-leb, lt-ltb}
use Rattle.std.proofs.lemmas.Fmt.{decimal_is_IsNumeral}
use Rattle.std.proofs.lemmas.List.Folds.{list_all-append}
use Rattle.std.proofs.lemmas.Str.Parse.{digit_at}
use Rattle.html.specs.Values.{value_text}
use Rattle.html.specs.Plain.{is_plain_byte, is_plain}
use Rattle.html.proofs.PlainTexts.{plain-stays}
use Rattle.sheets.specs.CellText.{in_parentheses}

pub plain-append : (one other : List ℕ) → is_plain one ≡ true → is_plain other ≡ true → is_plain (one ++ other) ≡ true
plain-append one other a b =
    list_all-append is_plain_byte one other ∙ and_from (is_plain one) (is_plain other) a b

pub byte-plain : (byte : ℕ) → 32 ≤ byte → byte < 127 → byte ≢ 38 → byte ≢ 60 → byte ≢ 62 → is_plain_byte byte ≡ true
byte-plain byte from below amp lt gt =
    and_from (nat_le 32 byte) (nat_lt byte 127 && (not (eqb byte 38) && (not (eqb byte 60) && not (eqb byte 62))))
    (le-leb 32 byte from)
    (and_from (nat_lt byte 127) (not (eqb byte 38) && (not (eqb byte 60) && not (eqb byte 62)))
    (lt-ltb byte 127 below)
    (and_from (not (eqb byte 38)) (not (eqb byte 60) && not (eqb byte 62)) (not_from_false (eqb byte 38) (ne_eqb byte 38 amp))
    (and_from (not (eqb byte 60)) (not (eqb byte 62)) (not_from_false (eqb byte 60) (ne_eqb byte 60 lt))
    (not_from_false (eqb byte 62) (ne_eqb byte 62 gt)))))

digit-plain : (byte : ℕ) → 48 ≤ byte → byte < 58 → is_plain_byte byte ≡ true
digit-plain byte from below =
    byte-plain byte (omega (arith, from)) (omega (arith, below)) (λ e. omega (arith, from, e))
    (λ e. omega (arith, below, e)) (λ e. omega (arith, below, e))

digits-plain : (text : List ℕ) → AllDigits 10 text → is_plain text ≡ true
digits-plain [] h = refl
digits-plain (byte ∷ bytes) h =
    let range = digit_at (byte ∷ bytes) 0 h (omega arith) in
    and_from (is_plain_byte byte) (is_plain bytes) (digit-plain byte range.0 (omega (arith, range.1))) (digits-plain bytes h.1)

decimal-plain : (n : ℕ) → n < 2 ^ 64 → is_plain (decimal n) ≡ true
decimal-plain n h = digits-plain (decimal n) (decimal_is_IsNumeral n h).0.1

pub decimal-stays : (n : ℕ) → n < 2 ^ 64 → value_text (decimal n) ≡ decimal n
decimal-stays n h = plain-stays (decimal n) (decimal-plain n h)

pub parentheses-stay : (n : ℕ) → n < 2 ^ 64 → value_text (in_parentheses (decimal n)) ≡ in_parentheses (decimal n)
parentheses-stay n h =
    plain-stays (in_parentheses (decimal n)) (plain-append (decimal n) (41 ∷ []) (decimal-plain n h) refl)

pub nothing-stays : value_text [] ≡ []
nothing-stays = plain-stays [] refl

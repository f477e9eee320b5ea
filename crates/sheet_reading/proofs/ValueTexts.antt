-- The text of a value has no `<`, and is read as what is shown.
use Rattle.std.proofs.Common.{◌≡◌, ◌≢◌, ℕ, ◌+◌, ◌/◌, ◌%◌, ◌<◌, ◌≤◌, Bool, true, false, cond, eqb, List, [], ◌∷◌, ◌++◌, map, None, Some, refl, ◌∙◌, nat_lt, ap, arith}
use Rattle.std.specs.Prelude.{codes}
use Rattle.std.specs.List.{flat_map}
use Rattle.std.specs.Char.{is_control}
use Rattle.std.specs.Str.{chars, is_utf8}
use Rattle.std.proofs.Math.Utf8.{encode, encodes, scalar, scalars, low_scalar}
use Rattle.std.proofs.lemmas.Bool.{ne_eqb, le-ltb, ltb-true, ltb-false, eqb-true, eqb-false, and_parts, and_from}
use Rattle.std.proofs.lemmas.Str.{encode_ascii, chars-encodes, scalars-chars, IsUtf8-from_is_utf8}
use Rattle.html.specs.Values.{value_chars, shown_char, char_text, value_text}
use Rattle.sheet_reading.specs.Values.{shown}
use Rattle.sheet_reading.specs.Pages.{resolved_from}
use Rattle.html.proofs.Each.{Each, each-append, each-weaker}

-- ---- bytes of a character that isn't of ASCII
high : (c : ℕ) (two three : Bool) →
    Each (λ byte. 128 ≤ byte)
    (cond two ((192 + c / 64) ∷ (128 + c % 64) ∷ [])
    (cond three ((224 + c / 4096) ∷ (128 + c / 64 % 64) ∷ (128 + c % 64) ∷ [])
    ((240 + c / 262144) ∷ (128 + c / 4096 % 64) ∷ (128 + c / 64 % 64) ∷ (128 + c % 64) ∷ [])))
high c true three = (omega arith, (omega arith, tt))
high c false true = (omega arith, (omega arith, (omega arith, tt)))
high c false false = (omega arith, (omega arith, (omega arith, (omega arith, tt))))

high-encode : (c : ℕ) → 128 ≤ c → Each (λ byte. 128 ≤ byte) (encode c)
unfolding encode
high-encode c h = rw (le-ltb c 128 h) (high c (nat_lt c 2048) (nat_lt c 65536))

-- ---- no byte of a value's text is `<`
calm-low : (c : ℕ) → c < 128 → eqb c 60 ≡ false → Each (λ byte. byte ≢ 60) (encode c)
calm-low c h e = rw (encode_ascii c h) (eqb-false c 60 e, tt)

calm-encode : (c : ℕ) (low : Bool) → nat_lt c 128 ≡ low → eqb c 60 ≡ false → Each (λ byte. byte ≢ 60) (encode c)
calm-encode c true is e = calm-low c (ltb-true c 128 is) e
calm-encode c false is e =
    each-weaker (λ byte. 128 ≤ byte) (λ byte. byte ≢ 60) (λ byte h. λ same. omega (arith, h, same)) (encode c)
    (high-encode c (ltb-false c 128 is))

calm-char : (c : ℕ) (amp lt gt : Bool) → (lt ≡ false → Each (λ byte. byte ≢ 60) (encode c)) →
    Each (λ byte. byte ≢ 60) (cond amp (codes "&amp;") (cond lt (codes "&lt;") (cond gt (codes "&gt;") (encode c))))
calm-char c true lt gt h = (λ e. omega (arith, e), (λ e. omega (arith, e), (λ e. omega (arith, e), (λ e. omega (arith, e), (λ e. omega (arith, e), tt)))))
calm-char c false true gt h = (λ e. omega (arith, e), (λ e. omega (arith, e), (λ e. omega (arith, e), (λ e. omega (arith, e), tt))))
calm-char c false false true h = (λ e. omega (arith, e), (λ e. omega (arith, e), (λ e. omega (arith, e), (λ e. omega (arith, e), tt))))
calm-char c false false false h = h refl

calm-chars : (cs : List ℕ) → Each (λ byte. byte ≢ 60) (flat_map char_text cs)
calm-chars [] = tt
calm-chars (c ∷ cs) =
    each-append (λ byte. byte ≢ 60) (char_text c) (flat_map char_text cs)
    (calm-char c (eqb c 38) (eqb c 60) (eqb c 62) (calm-encode c (nat_lt c 128) refl)) (calm-chars cs)

pub value-calm : (value : List ℕ) → Each (λ byte. byte ≢ 60) (value_text value)
unfolding value_text
value-calm value = calm-chars (map shown_char (value_chars value))

-- ---- what is read of it
-- bytes without `&`
pub plain-read : (bytes rest : List ℕ) → Each (λ byte. byte ≢ 38) bytes →
    resolved_from None (bytes ++ rest) ≡ bytes ++ resolved_from None rest
plain-read [] rest h = refl
plain-read (byte ∷ bytes) rest h =
    ap (λ b. cond b (resolved_from (Some []) (bytes ++ rest)) (byte ∷ resolved_from None (bytes ++ rest))) (ne_eqb byte 38 h.0)
    ∙ ap (λ t. byte ∷ t) (plain-read bytes rest h.1)

plain-low : (c : ℕ) → c < 128 → eqb c 38 ≡ false → Each (λ byte. byte ≢ 38) (encode c)
plain-low c h e = rw (encode_ascii c h) (eqb-false c 38 e, tt)

plain-encode : (c : ℕ) (low : Bool) → nat_lt c 128 ≡ low → eqb c 38 ≡ false → Each (λ byte. byte ≢ 38) (encode c)
plain-encode c true is e = plain-low c (ltb-true c 128 is) e
plain-encode c false is e =
    each-weaker (λ byte. 128 ≤ byte) (λ byte. byte ≢ 38) (λ byte h. λ same. omega (arith, h, same)) (encode c)
    (high-encode c (ltb-false c 128 is))

same-as : (c d : ℕ) (rest : List ℕ) → d < 128 → eqb c d ≡ true → d ∷ rest ≡ encode c ++ rest
same-as c d rest h e = rw (eqb-true c d e, encode_ascii d h) refl

char-read : (c : ℕ) (rest : List ℕ) (amp lt gt : Bool) → eqb c 38 ≡ amp → eqb c 60 ≡ lt → eqb c 62 ≡ gt →
    resolved_from None (cond amp (codes "&amp;") (cond lt (codes "&lt;") (cond gt (codes "&gt;") (encode c))) ++ rest)
    ≡ encode c ++ resolved_from None rest
char-read c rest true lt gt amp_is lt_is gt_is = same-as c 38 (resolved_from None rest) (omega arith) amp_is
char-read c rest false true gt amp_is lt_is gt_is = same-as c 60 (resolved_from None rest) (omega arith) lt_is
char-read c rest false false true amp_is lt_is gt_is = same-as c 62 (resolved_from None rest) (omega arith) gt_is
char-read c rest false false false amp_is lt_is gt_is =
    plain-read (encode c) rest (plain-encode c (nat_lt c 128) refl amp_is)

chars-read : (cs : List ℕ) → resolved_from None (flat_map char_text cs) ≡ encodes cs
chars-read [] = refl
chars-read (c ∷ cs) =
    char-read c (flat_map char_text cs) (eqb c 38) (eqb c 60) (eqb c 62) refl refl refl
    ∙ ap (λ t. encode c ++ t) (chars-read cs)

encodes-flat : (cs : List ℕ) → encodes cs ≡ flat_map encode cs
encodes-flat [] = refl
encodes-flat (c ∷ cs) = ap (λ t. encode c ++ t) (encodes-flat cs)

pub value-resolved : (value : List ℕ) → resolved_from None (value_text value) ≡ flat_map encode (shown value)
unfolding value_text shown
value-resolved value =
    chars-read (map shown_char (value_chars value)) ∙ encodes-flat (map shown_char (value_chars value))

-- ---- the characters that are shown are characters
scalar-shown : (c : ℕ) (is : Bool) → scalar c ≡ true → scalar (cond is 0xFFFD c) ≡ true
scalar-shown c true h = refl
scalar-shown c false h = h

scalars-shown : (cs : List ℕ) → scalars cs ≡ true → scalars (map shown_char cs) ≡ true
scalars-shown [] h = refl
scalars-shown (c ∷ cs) h =
    let parts = and_parts (scalar c) (scalars cs) h in
    and_from (scalar (shown_char c)) (scalars (map shown_char cs)) (scalar-shown c (is_control c) parts.0) (scalars-shown cs parts.1)

scalars-bytes : (bytes : List ℕ) → Each (λ byte. byte < 256) bytes → scalars bytes ≡ true
scalars-bytes [] h = refl
scalars-bytes (byte ∷ bytes) h =
    and_from (scalar byte) (scalars bytes) (low_scalar byte (omega (arith, h.0))) (scalars-bytes bytes h.1)

scalars-value : (bytes : List ℕ) (spells : Bool) → is_utf8 bytes ≡ spells → Each (λ byte. byte < 256) bytes →
    scalars (cond spells (chars bytes) bytes) ≡ true
scalars-value bytes true is h = scalars-chars bytes (IsUtf8-from_is_utf8 bytes is)
scalars-value bytes false is h = scalars-bytes bytes h

pub value-read : (value : List ℕ) → Each (λ byte. byte < 256) value → chars (resolved_from None (value_text value)) ≡ shown value
unfolding value_text shown
value-read value h =
    let cs = map shown_char (value_chars value) in
    ap chars (chars-read cs)
    ∙ chars-encodes cs (scalars-shown (value_chars value) (scalars-value value (is_utf8 value) refl h))

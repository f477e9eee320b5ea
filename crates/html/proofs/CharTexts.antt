-- The text of characters: of one after another, and of those of a value.
use Rattle.std.proofs.Common.{◌≡◌, ℕ, cond, List, [], ◌∷◌, ◌++◌, length, sym, ◌∙◌, ap, arith, chars, IsUtf8}
use Rattle.std.specs.List.{flat_map}
use Rattle.std.specs.Char.{encode_utf8}
use Rattle.std.specs.Str.{is_utf8}
use Rattle.std.proofs.lemmas.Bool.{false_from_ne_true}
use Rattle.std.proofs.lemmas.List.Folds.{flat_map-map}
use Rattle.std.proofs.lemmas.List.{append-nil}
use Rattle.std.proofs.lemmas.Str.{chars-nil, chars_past_char, is_utf8-from_IsUtf8, IsUtf8-from_is_utf8}
use Rattle.html.specs.Values.{char_text, shown_char, chars_text, value_text}

-- the text of a character in a page
abbrev pub shown_text : ℕ → List ℕ
shown_text c = char_text (shown_char c)

pub chars_text-flat : (cs : List ℕ) → chars_text cs ≡ flat_map shown_text cs
chars_text-flat cs = flat_map-map char_text shown_char cs

pub chars_text-front : (bytes rest : List ℕ) (c : ℕ) → IsUtf8 bytes → bytes ≡ encode_utf8 c ++ rest →
    chars_text (chars bytes) ≡ shown_text c ++ chars_text (chars rest)
chars_text-front bytes rest c utf8 e = ap chars_text (chars_past_char bytes rest c utf8 e)

-- no bytes are left
pub chars_text-end : (bytes gone whole : List ℕ) → length bytes ≡ 0 → gone ++ chars_text (chars bytes) ≡ whole → gone ≡ whole
chars_text-end [] gone whole h e = sym (append-nil gone) ∙ (sym (ap (λ cs. gone ++ chars_text cs) chars-nil) ∙ e)
chars_text-end (byte ∷ bytes) gone whole h e = absurd (omega (arith, h))

pub chars_text-utf8 : (text bytes : List ℕ) → text ≡ bytes → IsUtf8 bytes → chars_text (chars text) ≡ value_text bytes
unfolding value_text
chars_text-utf8 text bytes same utf8 =
    ap (λ t. chars_text (chars t)) same
    ∙ sym (ap (λ b. chars_text (cond b (chars bytes) bytes)) (is_utf8-from_IsUtf8 bytes utf8))

pub chars_text-latin : (bytes : List ℕ) → (IsUtf8 bytes → ⊥) → chars_text bytes ≡ value_text bytes
unfolding value_text
chars_text-latin bytes other =
    sym (ap (λ b. chars_text (cond b (chars bytes) bytes))
    (false_from_ne_true (is_utf8 bytes) (λ e. other (IsUtf8-from_is_utf8 bytes e))))

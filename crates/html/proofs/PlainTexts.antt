-- A plain value stands in a page as it is.
use Rattle.std.proofs.Common.{◌≡◌, ℕ, zero, suc, ◌<◌, ◌≤◌, true, false, cond, not, eqb, List, [], ◌∷◌, ◌++◌, refl, sym, ◌∙◌, ap, arith, IsAscii, nat_le, nat_lt}
use Rattle.std.specs.Prelude.{◌&&◌, codes}
use Rattle.std.specs.List.{flat_map}
use Rattle.std.specs.Char.{encode_utf8, is_control}
use Rattle.std.proofs.lemmas.Bool.{and_parts, and_left, and_right, or_from, not-true, leb-true, ltb-true, lt-leb}
use Rattle.std.proofs.lemmas.Str.{encode_ascii, chars-IsAscii, IsUtf8-from_ascii}
use Rattle.html.specs.Values.{char_text, chars_text, value_text}
use Rattle.html.specs.Plain.{is_plain_byte, is_plain}
use Rattle.html.proofs.CharTexts.{shown_text, chars_text-flat, chars_text-utf8}

pub record IsPlainByte (byte : ℕ) : Type 0 where
  pub from : 32 ≤ byte
  pub below : byte < 127
  pub amp : eqb byte 38 ≡ false
  pub lt : eqb byte 60 ≡ false
  pub gt : eqb byte 62 ≡ false

pub plain-byte : (byte : ℕ) → is_plain_byte byte ≡ true → IsPlainByte byte
plain-byte byte h =
    let a = and_parts (nat_le 32 byte) (nat_lt byte 127 && (not (eqb byte 38) && (not (eqb byte 60) && not (eqb byte 62)))) h in
    let b = and_parts (nat_lt byte 127) (not (eqb byte 38) && (not (eqb byte 60) && not (eqb byte 62))) a.1 in
    let c = and_parts (not (eqb byte 38)) (not (eqb byte 60) && not (eqb byte 62)) b.1 in
    let d = and_parts (not (eqb byte 60)) (not (eqb byte 62)) c.1 in
    record {
      from = leb-true 32 byte a.0;
      below = ltb-true byte 127 b.0;
      amp = not-true (eqb byte 38) c.0;
      lt = not-true (eqb byte 60) d.0;
      gt = not-true (eqb byte 62) d.1;
    }

no-control : (byte : ℕ) → 32 ≤ byte → byte < 127 → is_control byte ≡ false
no-control byte from below =
    or_from (nat_le 0 byte && nat_le byte 31) (nat_le 127 byte && nat_le byte 159)
    (and_right (nat_le 0 byte) (nat_le byte 31) (lt-leb byte 31 (omega (arith, from))))
    (and_left (nat_le 127 byte) (nat_le byte 159) (lt-leb 127 byte below))

text-byte : (byte : ℕ) → IsPlainByte byte → shown_text byte ≡ byte ∷ []
text-byte byte h =
    ap char_text (ap (λ b. cond b 0xFFFD byte) (no-control byte h.from h.below))
    ∙ (ap (λ b. cond b (codes "&amp;") (cond (eqb byte 60) (codes "&lt;") (cond (eqb byte 62) (codes "&gt;") (encode_utf8 byte)))) h.amp
    ∙ (ap (λ b. cond b (codes "&lt;") (cond (eqb byte 62) (codes "&gt;") (encode_utf8 byte))) h.lt
    ∙ (ap (λ b. cond b (codes "&gt;") (encode_utf8 byte)) h.gt
    ∙ encode_ascii byte (omega (arith, h.below)))))

text-bytes : (bytes : List ℕ) → is_plain bytes ≡ true → flat_map shown_text bytes ≡ bytes
text-bytes [] h = refl
text-bytes (byte ∷ bytes) h =
    let parts = and_parts (is_plain_byte byte) (is_plain bytes) h in
    ap (λ t. t ++ flat_map shown_text bytes) (text-byte byte (plain-byte byte parts.0))
    ∙ ap (λ t. byte ∷ t) (text-bytes bytes parts.1)

ascii : (bytes : List ℕ) → is_plain bytes ≡ true → IsAscii bytes
ascii [] h i = omega arith
ascii (byte ∷ bytes) h zero =
    omega (arith, (plain-byte byte (and_parts (is_plain_byte byte) (is_plain bytes) h).0).below)
ascii (byte ∷ bytes) h (suc i) = ascii bytes (and_parts (is_plain_byte byte) (is_plain bytes) h).1 i

pub plain-stays : (value : List ℕ) → is_plain value ≡ true → value_text value ≡ value
plain-stays value h =
    sym (chars_text-utf8 value value refl (IsUtf8-from_ascii value (ascii value h)))
    ∙ (ap chars_text (chars-IsAscii value (ascii value h))
    ∙ (chars_text-flat value ∙ text-bytes value h))

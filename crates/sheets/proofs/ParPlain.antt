-- The texts of par stand in a page as they are.
use Rattle.std.proofs.Common.{◌≡◌, ℕ, ◌<◌, ◌≤◌, ◌^◌, true, ◌||◌, List, [], ◌∷◌, eqb, refl, inl, inr, arith, nat_le}
use Rattle.std.specs.Prelude.{◌&&◌, ℤ, unsigned_abs}
use Rattle.std.proofs.lemmas.Bool.{and_from, and_parts, or_cases, leb-true, eqb-true}
use Rattle.par.specs.declared.contracts.ParContract.{ParContract}
use Rattle.par.specs.Texts.{score_text, contracts_text}
use Rattle.par.proofs.TextBytes.{is_par_byte, are_par_bytes, AreSmall, score-bytes, contracts-bytes}
use Rattle.html.specs.Values.{value_text}
use Rattle.html.specs.Plain.{is_plain_byte, is_plain}
use Rattle.html.proofs.PlainTexts.{plain-stays}
use Rattle.sheets.proofs.PlainTexts.{byte-plain}

from-range : (byte low high : ℕ) → (nat_le low byte && nat_le byte high) ≡ true → (low ≤ byte) × (byte ≤ high)
from-range byte low high h =
    let parts = and_parts (nat_le low byte) (nat_le byte high) h in
    (leb-true low byte parts.0, leb-true byte high parts.1)

signs-plain : (byte : ℕ) → (43 ≤ byte) × (byte ≤ 57) → is_plain_byte byte ≡ true
signs-plain byte h =
    byte-plain byte (omega (arith, h.0)) (omega (arith, h.1)) (λ e. omega (arith, h.0, e))
    (λ e. omega (arith, h.1, e)) (λ e. omega (arith, h.1, e))

letters-plain : (byte : ℕ) → (97 ≤ byte) × (byte ≤ 122) → is_plain_byte byte ≡ true
letters-plain byte h =
    byte-plain byte (omega (arith, h.0)) (omega (arith, h.1)) (λ e. omega (arith, h.0, e))
    (λ e. omega (arith, h.0, e)) (λ e. omega (arith, h.0, e))

capitals-plain : (byte : ℕ) → (65 ≤ byte) × (byte ≤ 90) → is_plain_byte byte ≡ true
capitals-plain byte h =
    byte-plain byte (omega (arith, h.0)) (omega (arith, h.1)) (λ e. omega (arith, h.0, e))
    (λ e. omega (arith, h.0, e)) (λ e. omega (arith, h.0, e))

par-byte-plain : (byte : ℕ) → is_par_byte byte ≡ true → is_plain_byte byte ≡ true
par-byte-plain byte h =
    elim (or_cases (nat_le 43 byte && nat_le byte 57) ((nat_le 65 byte && nat_le byte 90) || (eqb byte 32 || (nat_le 97 byte && nat_le byte 122))) h) [
      | inl a ↦ signs-plain byte (from-range byte 43 57 a)
      | inr b ↦ elim (or_cases (nat_le 65 byte && nat_le byte 90) (eqb byte 32 || (nat_le 97 byte && nat_le byte 122)) b) [
        | inl c ↦ capitals-plain byte (from-range byte 65 90 c)
        | inr d ↦ elim (or_cases (eqb byte 32) (nat_le 97 byte && nat_le byte 122) d) [
          | inl e ↦ rw (eqb-true byte 32 e) refl
          | inr f ↦ letters-plain byte (from-range byte 97 122 f)
        ]
      ]
    ]

par-plain : (text : List ℕ) → are_par_bytes text ≡ true → is_plain text ≡ true
par-plain [] h = refl
par-plain (byte ∷ bytes) h =
    let parts = and_parts (is_par_byte byte) (are_par_bytes bytes) h in
    and_from (is_plain_byte byte) (is_plain bytes) (par-byte-plain byte parts.0) (par-plain bytes parts.1)

pub score-stays : (par : ℤ) → unsigned_abs par < 2 ^ 16 → value_text (score_text par) ≡ score_text par
score-stays par small = plain-stays (score_text par) (par-plain (score_text par) (score-bytes par small))

pub contracts-stay : (contracts : List ParContract) → AreSmall contracts → value_text (contracts_text contracts) ≡ contracts_text contracts
contracts-stay contracts small = plain-stays (contracts_text contracts) (par-plain (contracts_text contracts) (contracts-bytes contracts small))

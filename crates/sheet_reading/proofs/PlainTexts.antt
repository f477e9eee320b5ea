-- A plain value stands in a page as it is.
use Rattle.std.proofs.Common.{◌≡◌, ◌≢◌, ℕ, None, true, List, [], ◌∷◌, sym, ◌∙◌, ap}
use Rattle.std.proofs.lemmas.Bool.{and_parts, eqb-false}
use Rattle.std.proofs.lemmas.List.{append-nil}
use Rattle.html.specs.Plain.{is_plain_byte, is_plain}
use Rattle.sheet_reading.specs.Pages.{resolved_from}
use Rattle.html.proofs.Each.{Each}
use Rattle.sheet_reading.proofs.ValueTexts.{plain-read}
use Rattle.html.proofs.PlainTexts.{plain-byte}

-- it is read as it stands
no-amp : (bytes : List ℕ) → is_plain bytes ≡ true → Each (λ byte. byte ≢ 38) bytes
no-amp [] h = tt
no-amp (byte ∷ bytes) h =
    let parts = and_parts (is_plain_byte byte) (is_plain bytes) h in
    (eqb-false byte 38 (plain-byte byte parts.0).amp, no-amp bytes parts.1)

pub amp-free-resolved : (text : List ℕ) → Each (λ byte. byte ≢ 38) text → resolved_from None text ≡ text
amp-free-resolved text h =
    ap (resolved_from None) (sym (append-nil text)) ∙ (plain-read text [] h ∙ append-nil text)

pub plain-resolved : (text : List ℕ) → is_plain text ≡ true → resolved_from None text ≡ text
plain-resolved text h = amp-free-resolved text (no-amp text h)

-- The texts of par are calm.
use Rattle.std.proofs.Common.{◌≡◌, ◌≢◌, ℕ, ◌<◌, ◌^◌, true, false, List, [], ◌∷◌, refl, sym, ap, ◌∙◌}
use Rattle.std.specs.Prelude.{ℤ, unsigned_abs, All}
use Rattle.std.proofs.lemmas.Bool.{ne_eqb, and_parts, and_from}
use Rattle.par.specs.declared.contracts.ParContract.{ParContract}
use Rattle.par.specs.Texts.{score_text, contracts_text, IsSmallResult}
use Rattle.par.proofs.TextBytes.{is_par_byte, are_par_bytes, score-bytes, contracts-bytes}
use Rattle.text_laws.proofs.CalmTexts.{is_calm_byte, is_calm}

differs : (byte other : ℕ) → is_par_byte other ≡ false → is_par_byte byte ≡ true → byte ≢ other
differs byte other lacks h e = absurd (let same = sym lacks ∙ (sym (ap is_par_byte e) ∙ h) in cc)

par-byte-calm : (byte : ℕ) → is_par_byte byte ≡ true → is_calm_byte byte ≡ true
par-byte-calm byte h =
    rw (ne_eqb byte 10 (differs byte 10 refl h), ne_eqb byte 13 (differs byte 13 refl h), ne_eqb byte 34 (differs byte 34 refl h), ne_eqb byte 59 (differs byte 59 refl h), ne_eqb byte 91 (differs byte 91 refl h), ne_eqb byte 123 (differs byte 123 refl h)) refl

par-calm : (text : List ℕ) → are_par_bytes text ≡ true → is_calm text ≡ true
par-calm [] h = refl
par-calm (byte ∷ bytes) h =
    let parts = and_parts (is_par_byte byte) (are_par_bytes bytes) h in
    and_from (is_calm_byte byte) (is_calm bytes) (par-byte-calm byte parts.0) (par-calm bytes parts.1)

pub score-calm : (par : ℤ) → unsigned_abs par < 2 ^ 16 → is_calm (score_text par) ≡ true
score-calm par small = par-calm (score_text par) (score-bytes par small)

pub contracts-calm : (contracts : List ParContract) → All (λ contract. IsSmallResult contract.outcome) contracts → is_calm (contracts_text contracts) ≡ true
contracts-calm contracts small = par-calm (contracts_text contracts) (contracts-bytes contracts small)

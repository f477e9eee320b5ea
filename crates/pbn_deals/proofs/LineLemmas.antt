-- The rules of a line, at a text that is known by its first byte.
use Rattle.std.proofs.Common.{◌≡◌, ℕ, Bool, true, false, not, cond, eqb, List, ◌∷◌, refl, sym, ◌∙◌, ap, subst}
use Rattle.std.proofs.lemmas.Bool.{ne_eqb, eqb-true}
use Rattle.pbn_deals.specs.Letters.{is_blank}
use Rattle.pbn_deals.specs.Games.{Tags}
use Rattle.pbn_deals.specs.Reading.{LineEnd, Scans, EndsLine, OpensComment, OpensText, OpensTag, IsSpace, IsData, at_blank, at_plain, at_bracket, meaning_of}

pub Scans-at : (number count : ℕ) (in_data : Bool) (tags : Tags) (rest others : List ℕ) (first : ℕ) (last : LineEnd) → rest ≡ first ∷ others → Scans number count in_data tags (first ∷ others) last → Scans number count in_data tags rest last
Scans-at number count in_data tags rest others first last e h =
    subst (λ t. Scans number count in_data tags t last) (sym e) h

pub Scans-flag : (number count : ℕ) (one other : Bool) (tags : Tags) (rest : List ℕ) (last : LineEnd) → one ≡ other → Scans number count one tags rest last → Scans number count other tags rest last
Scans-flag number count one other tags rest last e h = subst (λ d. Scans number count d tags rest last) e h

-- a byte that none of the signs is
pub meaning_of-other : (byte : ℕ) (b : Bool) → (byte ≡ 59 → ⊥) → (byte ≡ 123 → ⊥) → (byte ≡ 34 → ⊥) → (byte ≡ 91 → ⊥) → is_blank byte ≡ b → meaning_of byte ≡ cond b IsSpace IsData
meaning_of-other byte b n m l k e =
    ap (λ x. cond x EndsLine (cond (eqb byte 123) OpensComment (cond (eqb byte 34) OpensText (cond (eqb byte 91) OpensTag (cond (is_blank byte) IsSpace IsData))))) (ne_eqb byte 59 n)
    ∙ (ap (λ x. cond x OpensComment (cond (eqb byte 34) OpensText (cond (eqb byte 91) OpensTag (cond (is_blank byte) IsSpace IsData)))) (ne_eqb byte 123 m)
    ∙ (ap (λ x. cond x OpensText (cond (eqb byte 91) OpensTag (cond (is_blank byte) IsSpace IsData))) (ne_eqb byte 34 l)
    ∙ (ap (λ x. cond x OpensTag (cond (is_blank byte) IsSpace IsData)) (ne_eqb byte 91 k)
    ∙ ap (λ x. cond x IsSpace IsData) e)))

-- a byte before section data that begins no comment, quoted text or tag pair: a blank, or the beginning of section data
pub Scans-byte : (number count : ℕ) (tags : Tags) (rest : List ℕ) (byte : ℕ) (last : LineEnd) (b : Bool) → (byte ≡ 59 → ⊥) → (byte ≡ 123 → ⊥) → (byte ≡ 34 → ⊥) → (byte ≡ 91 → ⊥) → is_blank byte ≡ b → Scans number count (not b) tags rest last → Scans number count false tags (byte ∷ rest) last
Scans-byte number count tags rest byte last true n m l k e h = at_blank (meaning_of-other byte true n m l k e) h
Scans-byte number count tags rest byte last false n m l k e h = at_plain (meaning_of-other byte false n m l k e) h

-- a byte in section data that begins no comment or quoted text
pub Scans-data : (number count : ℕ) (tags : Tags) (rest : List ℕ) (byte : ℕ) (last : LineEnd) → (byte ≡ 59 → ⊥) → (byte ≡ 123 → ⊥) → (byte ≡ 34 → ⊥) → Scans number count true tags rest last → Scans number count true tags (byte ∷ rest) last
Scans-data number count tags rest byte last n m l h = go (eqb byte 91) refl (is_blank byte) refl where
  other : eqb byte 91 ≡ false → byte ≡ 91 → ⊥
  other f e = let t : eqb byte 91 ≡ true = ap (λ x. eqb x 91) e in absurd (cc)

  go : (is_bracket : Bool) → eqb byte 91 ≡ is_bracket → (b : Bool) → is_blank byte ≡ b → Scans number count true tags (byte ∷ rest) last
  go true e b f = at_bracket (ap meaning_of (eqb-true byte 91 e)) h
  go false e true f = at_blank (meaning_of-other byte true n m l (other e) f) h
  go false e false f = at_plain (meaning_of-other byte false n m l (other e) f) h

-- The letters of a line, as its bytes come in.
use Rattle.std.proofs.Common.{◌≡◌, ℕ, suc, zero, List, [], ◌∷◌, ◌++◌, length, take, map, not, true, false, ◌<◌, ◌≤◌, refl, sym, ◌∙◌, ap, arith, length-append, append-nil}
use Rattle.std.proofs.lemmas.List.{map-append, take_all, take_at}
use Rattle.std.proofs.lemmas.List.Elements.{filter-append}
use Rattle.std.specs.Prelude.{filter}
use Rattle.std.specs.Char.{to_ascii_uppercase}
use Rattle.play_dialogues.specs.Words.{is_blank, letters_of}

take_again : (n : ℕ) (xs ys : List ℕ) → take n (take n xs ++ ys) ≡ take n (xs ++ ys)
take_again zero xs ys = refl
take_again (suc n) [] ys = refl
take_again (suc n) (x ∷ xs) ys = ap (λ (l : List ℕ). x ∷ l) (take_again n xs ys)

letters_of-append : (line more : List ℕ) → letters_of (line ++ more) ≡ letters_of line ++ letters_of more
unfolding letters_of
letters_of-append line more =
    let counts : ℕ → _ = λ byte. not (is_blank byte) in
    ap (map to_ascii_uppercase) (filter-append counts line more)
    ∙ map-append to_ascii_uppercase (filter counts line) (filter counts more)

-- one byte more
pub letters_more : (seen : List ℕ) (byte : ℕ) →
    take 6 (take 6 (letters_of seen) ++ letters_of (byte ∷ [])) ≡ take 6 (letters_of (seen ++ byte ∷ []))
letters_more seen byte =
    take_again 6 (letters_of seen) (letters_of (byte ∷ [])) ∙ ap (take 6) (sym (letters_of-append seen (byte ∷ [])))

-- ---- what is kept
letters_of-blank : (byte : ℕ) → is_blank byte ≡ true → letters_of (byte ∷ []) ≡ []
unfolding letters_of
letters_of-blank byte blank = rw blank refl

letters_of-other : (byte : ℕ) → is_blank byte ≡ false → letters_of (byte ∷ []) ≡ to_ascii_uppercase byte ∷ []
unfolding letters_of
letters_of-other byte other = rw other refl

pub blank_is_left : (letters : List ℕ) (byte : ℕ) → is_blank byte ≡ true → length letters ≤ 6 →
    letters ≡ take 6 (letters ++ letters_of (byte ∷ []))
blank_is_left letters byte blank few =
    sym (ap (λ (l : List ℕ). take 6 (letters ++ l)) (letters_of-blank byte blank)
    ∙ (ap (take 6) (append-nil letters) ∙ take_all 6 letters few))

pub letter_is_kept : (letters : List ℕ) (byte : ℕ) → is_blank byte ≡ false → length letters < 6 →
    letters ++ to_ascii_uppercase byte ∷ [] ≡ take 6 (letters ++ letters_of (byte ∷ []))
letter_is_kept letters byte other few =
    let letter = to_ascii_uppercase byte in
    sym (ap (λ (l : List ℕ). take 6 (letters ++ l)) (letters_of-other byte other)
    ∙ take_all 6 (letters ++ letter ∷ []) (omega (arith, few, length-append letters (letter ∷ []))))

pub rest_is_left : (letters : List ℕ) (byte : ℕ) → length letters ≤ 6 → 6 ≤ length letters →
    letters ≡ take 6 (letters ++ letters_of (byte ∷ []))
rest_is_left letters byte few many = sym (take_at letters (letters_of (byte ∷ [])) 6 (omega (arith, few, many)))

pub letters_none : take 6 (letters_of []) ≡ []
unfolding letters_of
letters_none = refl

pub ruleset keeping = (blank_is_left, letter_is_kept, rest_is_left)

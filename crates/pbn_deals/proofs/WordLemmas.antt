-- The words of a text, taken off its front one by one.
use Rattle.std.proofs.Common.{◌≡◌, ℕ, ◌+◌, ◌<◌, Bool, true, false, cond, List, [], ◌∷◌, ◌++◌, length, take, drop, get_or, refl, sym, ◌∙◌, ap, subst, inl, inr, arith, filter, All}
use Rattle.std.specs.List.{slice_split}
use Rattle.std.proofs.lemmas.List.{drop_more, take-append-drop, length-take, nil_from_length}
use Rattle.std.proofs.lemmas.List.Splits.{slice_split_none, slice_split_at, slice_split-cons_yes}
use Rattle.std.proofs.lemmas.Bool.{false≢true, cases_eq}
use Rattle.pbn_deals.specs.Letters.{is_blank}
use Rattle.pbn_deals.specs.DealValue.{after_blanks, is_word, words_of}

abbrev pub AreNoBlanks : List ℕ → Type 0
AreNoBlanks text = All (λ byte. is_blank byte ≡ false) text

words_of-blank : (b : Bool) (byte : ℕ) (rest : List ℕ) → is_blank byte ≡ b → words_of (byte ∷ rest) ≡ words_of (cond b rest (byte ∷ rest))
words_of-blank true byte rest e = ap (filter is_word) (slice_split-cons_yes is_blank byte rest e)
words_of-blank false byte rest e = refl

-- blanks at the front are no word
pub words_of-after_blanks : (text : List ℕ) → words_of text ≡ words_of (after_blanks text)
words_of-after_blanks [] = refl
words_of-after_blanks (byte ∷ rest) = go (is_blank byte) refl (words_of-after_blanks rest) where
  go : (b : Bool) → is_blank byte ≡ b → words_of rest ≡ words_of (after_blanks rest) → words_of (byte ∷ rest) ≡ words_of (cond b (after_blanks rest) (byte ∷ rest))
  go true e h = words_of-blank true byte rest e ∙ h
  go false e h = refl

-- what stands after the blanks begins with no blank
pub after_blanks-front : (text : List ℕ) (byte : ℕ) (rest : List ℕ) → after_blanks text ≡ byte ∷ rest → is_blank byte ≡ false
after_blanks-front [] byte rest e = absurd (cc)
after_blanks-front (first ∷ others) byte rest e = go (is_blank first) refl e (after_blanks-front others byte rest) where
  go : (b : Bool) → is_blank first ≡ b → cond b (after_blanks others) (first ∷ others) ≡ byte ∷ rest → (after_blanks others ≡ byte ∷ rest → is_blank byte ≡ false) → is_blank byte ≡ false
  go true q f h = h f
  go false q f h = let same : first ≡ byte = cc in ap is_blank (sym same) ∙ q

keep_word : (word : List ℕ) (words : List (List ℕ)) → 0 < length word → filter is_word (word ∷ words) ≡ word ∷ filter is_word words
keep_word [] words h = absurd (omega arith)
keep_word (byte ∷ bytes) words h = refl

pub words_of-last : (word : List ℕ) → AreNoBlanks word → 0 < length word → words_of word ≡ word ∷ []
words_of-last word h some = ap (filter is_word) (slice_split_none is_blank word h) ∙ keep_word word [] some

pub words_of-front : (word : List ℕ) (byte : ℕ) (rest : List ℕ) → AreNoBlanks word → 0 < length word → is_blank byte ≡ true → words_of (word ++ byte ∷ rest) ≡ word ∷ words_of (byte ∷ rest)
words_of-front word byte rest h some blank =
    ap (filter is_word) (slice_split_at is_blank word byte rest h blank) ∙ (keep_word word (slice_split is_blank rest) some ∙ ap (λ x. word ∷ x) (sym (words_of-blank true byte rest blank)))

-- the same, of a text that is cut at a blank
pub words_of-cut : (text : List ℕ) (i d : ℕ) → i < length text → AreNoBlanks (take i text) → 0 < i → is_blank (get_or text i d) ≡ true → words_of text ≡ take i text ∷ words_of (drop i text)
words_of-cut text i d h none some blank =
    let rest : drop i text ≡ get_or text i d ∷ drop (i + 1) text = drop_more text i d h in
    let whole : text ≡ take i text ++ (get_or text i d ∷ drop (i + 1) text) = sym (take-append-drop i text) ∙ ap (λ x. take i text ++ x) rest in
    let short : 0 < length (take i text) = omega (arith, length-take i text) in
    ap words_of whole ∙ (words_of-front (take i text) (get_or text i d) (drop (i + 1) text) none short blank ∙ ap (λ x. take i text ∷ words_of x) (sym rest))

module _ (text after : List ℕ) (is_after_blanks : after ≡ after_blanks text) where
  words_of-after : words_of text ≡ words_of after
  words_of-after = words_of-after_blanks text ∙ ap words_of (sym is_after_blanks)

  pub no_word : length after ≡ 0 → words_of text ≡ []
  no_word none = words_of-after ∙ ap words_of (nil_from_length after none)

  pub last_word : 0 < length after → AreNoBlanks after → words_of text ≡ after ∷ []
  last_word some none = words_of-after ∙ words_of-last after none some

  pub one_word : (i d : ℕ) → i < length after → AreNoBlanks (take i after) → is_blank (get_or after i d) ≡ true → words_of text ≡ take i after ∷ words_of (drop i after)
  one_word i d h none blank =
      elim (cases_eq i 0) [
        | inl e ↦
            let first : is_blank (get_or after 0 d) ≡ true = subst (λ n. is_blank (get_or after n d) ≡ true) e blank in
            let front : is_blank (get_or after 0 d) ≡ false = after_blanks-front text (get_or after 0 d) (drop 1 after) (sym is_after_blanks ∙ drop_more after 0 d (omega arith)) in
            absurd (false≢true (sym front ∙ first))
        | inr n ↦ words_of-after ∙ words_of-cut after i d h none (omega arith) blank
      ]

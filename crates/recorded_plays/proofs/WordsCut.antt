-- The words between blanks.
use Rattle.std.proofs.Common.{◌≡◌, ℕ, ◌+◌, ◌<◌, true, false, List, [], ◌∷◌, ◌++◌, length, get_or, take, drop, All, Option, None, Some, refl, sym, ◌∙◌, ap, append_assoc}
use Rattle.std.specs.Borrow.{Bor}
use Rattle.std.specs.List.{filter_map, slice_split}
use Rattle.std.specs.Option.{option_map_or, option_to_list}
use Rattle.std.proofs.lemmas.List.{take-append-drop, drop_more}
use Rattle.std.proofs.lemmas.List.Elements.{filter_map-append}
use Rattle.std.proofs.lemmas.List.Splits.{slice_split_at, slice_split_none}
use Rattle.pbn_deals.specs.Letters.{is_blank}

pub cut_at : (text : List ℕ) (i d : ℕ) → i < length text → All (λ byte. is_blank byte ≡ false) (take i text) → is_blank (get_or text i d) ≡ true → slice_split is_blank text ≡ take i text ∷ slice_split is_blank (drop (i + 1) text)
cut_at text i d within none hit =
    ap (slice_split is_blank) (sym (take-append-drop i text) ∙ ap (λ l. take i text ++ l) (drop_more text i d within))
    ∙ slice_split_at is_blank (take i text) (get_or text i d) (drop (i + 1) text) none hit

pub not_cut : (text : List ℕ) → All (λ byte. is_blank byte ≡ false) text → slice_split is_blank text ≡ text ∷ []
not_cut text none = slice_split_none is_blank text none

one_of : {X Y : Type 0} (x : X) (o : Option Y) → filter_map (λ (z : X). o) (x ∷ []) ≡ option_to_list o
one_of x None = refl
one_of x (Some y) = refl

-- one word more was taken
module _ {Y : Type 0} (h : List ℕ → Option Y) (slots slots' whole : List Y) (word rest : List ℕ) (after : Option (Bor (List ℕ))) where
  abbrev others : List (List ℕ)
  others = option_map_or (λ (r : Bor (List ℕ)). slice_split is_blank r.now) after []

  pub word_more : slice_split is_blank rest ≡ word ∷ others → slots' ≡ slots ++ option_to_list (h word) → slots ++ filter_map h (slice_split is_blank rest) ≡ whole → slots' ++ filter_map h others ≡ whole
  word_more cut more so_far =
      ap (λ l. l ++ filter_map h others) more
      ∙ (append_assoc slots (option_to_list (h word)) (filter_map h others)
      ∙ (ap (λ l. slots ++ (l ++ filter_map h others)) (sym (one_of word (h word)))
      ∙ (ap (λ l. slots ++ l) (sym (filter_map-append h (word ∷ []) others) ∙ ap (filter_map h) (sym cut)) ∙ so_far)))

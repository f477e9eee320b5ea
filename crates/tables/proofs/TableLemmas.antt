-- The table of a board, complete or not, and its rows.
use Rattle.std.proofs.Common.{◌≡◌, ℕ, ◌<◌, true, false, cond, List, [], ◌∷◌, ◌++◌, refl, sym, ◌∙◌, ap, arith}
use Rattle.std.specs.List.{flat_map}
use Rattle.std.proofs.lemmas.Bool.{eq-eqb, ne_eqb}
use Rattle.std.proofs.lemmas.Grind.{flat_map-append}
use Rattle.cards.specs.declared.seats.Seat.{Seat}
use Rattle.tables.specs.TablesText.{Results, declarers, entries_of, entry_row, published_count, is_complete, table_text, table_tag, rows_text, incomplete_text}

-- the rows of a declarer
abbrev pub declarer_rows : List ℕ → Results → Seat → List ℕ
declarer_rows end results declarer = flat_map (entry_row end results) (entries_of declarer)

flat_map-twice : {X Y A : Type 0} (f : Y → List A) (g : X → List Y) (xs : List X) → flat_map (λ x. flat_map f (g x)) xs ≡ flat_map f (flat_map g xs)
flat_map-twice f g [] = refl
flat_map-twice f g (x ∷ xs) = ap (λ t. flat_map f (g x) ++ t) (flat_map-twice f g xs) ∙ sym (flat_map-append f (g x) (flat_map g xs))

pub rows_text-by_declarer : (end : List ℕ) (results : Results) → flat_map (declarer_rows end results) declarers ≡ rows_text end results
unfolding rows_text
rows_text-by_declarer end results = flat_map-twice (entry_row end results) entries_of declarers

pub is_complete-short : (results : Results) (m : ℕ) → m ≡ published_count results → (m ≡ 20 → ⊥) → is_complete results ≡ false
unfolding is_complete
is_complete-short results m e h = ne_eqb (published_count results) 20 (λ q. h (e ∙ q))

pub is_complete-full : (results : Results) (m : ℕ) → m ≡ published_count results → m ≡ 20 → is_complete results ≡ true
unfolding is_complete
is_complete-full results m e h = eq-eqb (published_count results) 20 (sym e ∙ h)

pub table_text-short : (end : List ℕ) (results : Results) (m : ℕ) → m ≡ published_count results → m < 20 → incomplete_text m ++ end ≡ table_text end results
unfolding table_text
table_text-short end results m e h =
    ap (λ n. incomplete_text n ++ end) e ∙ sym (ap (λ b. cond b ((table_tag ++ end) ++ rows_text end results) (incomplete_text (published_count results) ++ end)) (is_complete-short results m e (λ q. absurd (omega (arith, q, h)))))

pub table_text-full : (end : List ℕ) (results : Results) (m : ℕ) → m ≡ published_count results → m ≡ 20 → (table_tag ++ end) ++ rows_text end results ≡ table_text end results
unfolding table_text
table_text-full end results m e h =
    sym (ap (λ b. cond b ((table_tag ++ end) ++ rows_text end results) (incomplete_text (published_count results) ++ end)) (is_complete-full results m e h))

-- The first row of a text, from its bytes up to a line feed.
use Rattle.std.proofs.Common.{◌≡◌, ℕ, ◌≤◌, List, [], ◌∷◌, ◌++◌, length, drop, refl, sym, ◌∙◌, ap, arith, append_assoc, length-append}
use Rattle.std.proofs.Math.Seq.{drop-append_seam}
use Rattle.pbn_deals.specs.Lines.{without_return}
use Rattle.pbn_deals.specs.Reading.{Lacks}
use Rattle.pbn_deals.specs.Pieces.{end_of, rows_of}
use Rattle.pbn_deals.proofs.LinesOfText.{ended_part}
use Rattle.pbn_deals.proofs.RowsBack.{rows_of-cut, rows_of-last}

-- a text without a line feed, which has a byte
pub last_row : (text : List ℕ) → (text ≡ [] → ⊥) → Lacks 10 text → rows_of text ≡ record { bytes = text; end = [] } ∷ rows_of []
last_row [] n l = absurd (n refl)
last_row (byte ∷ bytes) n l = rows_of-last (byte ∷ bytes) l

module _ (text part after : List ℕ) (whole : text ≡ part ++ 10 ∷ after) (lacks : Lacks 10 part) where
  pub cut_row : rows_of text ≡ record { bytes = without_return part; end = end_of part } ∷ rows_of after
  cut_row = ap rows_of whole ∙ rows_of-cut part after lacks

  pub cut_whole : text ≡ (without_return part ++ end_of part) ++ after
  cut_whole = whole ∙ sym (ap (λ x. x ++ after) (ended_part part) ∙ append_assoc part (10 ∷ []) after)

  -- what stands behind the bytes of the line
  pub cut_rest : drop (length (without_return part)) text ≡ end_of part ++ after
  cut_rest =
      ap (drop (length (without_return part))) (cut_whole ∙ append_assoc (without_return part) (end_of part) after)
      ∙ drop-append_seam (without_return part) (end_of part ++ after)

  pub bytes_within : length (without_return part) ≤ length text
  bytes_within =
      let whole_length = ap length (cut_whole ∙ append_assoc (without_return part) (end_of part) after) in
      let parts = length-append (without_return part) (end_of part ++ after) in
      omega (arith, whole_length, parts)

  pub rest_within : length after ≤ length (drop (length (without_return part)) text)
  rest_within = let e = ap length cut_rest in let parts = length-append (end_of part) after in omega (arith, e, parts)

-- The ends of what is left of lines.
use Rattle.std.proofs.Common.{List, [], ◌∷◌, ◌≡◌, false, refl, ap, inl, inr, ℕ, Bool, true, cond, sym, ◌∙◌}
use Rattle.pbn_deals.specs.Pieces.{Line, ends_with_return, Kind, body_of}
use Rattle.pbn_deals.proofs.RowsBack.{IsEnded, row_of, Follow}
use Rattle.whole_texts.specs.OldTables.{without_tables, left_of}
use Rattle.whole_texts.proofs.Ends.{Ended}
use Rattle.text_laws.proofs.LeftLines.{left_ended, counts_ended}
use Rattle.tables.specs.declared.results.Renews.{Renews}
use Rattle.whole_texts.specs.WholeText.{if_none}
use Rattle.text_laws.specs.GivenEnds.{new_end}
use Rattle.whole_texts.specs.LineEnds.{IsLineEnd}

pub left_of_ended : (old : Renews) {lines : List Line} → Follow false lines false → Ended lines → Ended (left_of old lines)
left_of_ended old {lines} f h = counts_ended old (without_tables old false lines) (left_ended old false f h)

pub tail_ended : (line : Line) (lines : List Line) → Ended (line ∷ lines) → Ended lines
tail_ended line lines (inl (is, more)) = more
tail_ended line [] (inr (u, n)) = tt
tail_ended line (next ∷ lines) (inr (u, n)) = absurd (cc)

-- an end that a line has
pub has_end : (other end : List ℕ) → IsLineEnd end → if_none other end ≡ end
has_end other end (inl e) = ap (if_none other) e ∙ sym e
has_end other end (inr e) = ap (if_none other) e ∙ sym e

pub row_end : (line : Line) → IsEnded (row_of line) → IsLineEnd line.end
row_end line (lacks, inl e) = inl e
row_end line (lacks, inr (e, n)) = inr e

pub new_again : (other : List ℕ) (kind : Kind) → new_end (new_end other kind) kind ≡ new_end other kind
new_again other kind = go (ends_with_return (body_of kind)) where
  go : (b : Bool) → cond b (13 ∷ 10 ∷ []) (cond b (13 ∷ 10 ∷ []) other) ≡ cond b (13 ∷ 10 ∷ []) other
  go true = refl
  go false = refl

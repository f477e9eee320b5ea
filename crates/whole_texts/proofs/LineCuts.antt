-- Lines of a text, cut in two.
use Rattle.std.proofs.Common.{◌≡◌, ℕ, Bool, List, [], ◌∷◌, ◌++◌, sym, ◌∙◌, subst, flat_map}
use Rattle.std.proofs.lemmas.Grind.{flat_map-append}
use Rattle.pbn_deals.specs.Pieces.{rows_of, Line, line_bytes, AreLines}
use Rattle.pbn_deals.proofs.LinesOfText.{bytes_of-lines, bytes_of-rows}
use Rattle.pbn_deals.proofs.RowsBack.{AreEnded, text_ended, Follow, follow_none, follow_line, follow, rows_are, lines_back}
use Rattle.whole_texts.proofs.Ends.{Ended, front_ended, back_ended}

pub lines_bytes : {is_open last : Bool} (text : List ℕ) (lines : List Line) → AreLines is_open (rows_of text) lines last → text ≡ flat_map line_bytes lines
lines_bytes text lines h = sym (bytes_of-lines h ∙ bytes_of-rows text)

text_ends : {is_open last : Bool} (text : List ℕ) (lines : List Line) → AreLines is_open (rows_of text) lines last → Ended lines
text_ends text lines h = subst AreEnded (rows_are h) (text_ended text)

record Split (is_open : Bool) (one other : List Line) (last : Bool) : Type 0 where
  mid : Bool
  first : Follow is_open one mid
  second : Follow mid other last

split : {is_open last : Bool} (one other : List Line) → Follow is_open (one ++ other) last → Split is_open one other last
split {is_open} [] other h = record { mid = is_open; first = follow_none; second = h }
split (line ∷ one) other (follow_line l r) = let more = split one other r in record { mid = more.mid; first = follow_line l more.first; second = more.second }

pub record Cut (is_open : Bool) (text : List ℕ) (one other : List Line) (last : Bool) : Type 0 where
  pub mid : Bool
  pub first : AreLines is_open (rows_of (flat_map line_bytes one)) one mid
  pub second : AreLines mid (rows_of (flat_map line_bytes other)) other last
  pub whole : text ≡ flat_map line_bytes one ++ flat_map line_bytes other

pub cut_lines : {is_open last : Bool} (text : List ℕ) (one other : List Line) → AreLines is_open (rows_of text) (one ++ other) last → Cut is_open text one other last
cut_lines text one other h =
    let parts = split one other (follow h) in
    let ended = text_ends text (one ++ other) h in
    record {
      mid = parts.mid;
      first = lines_back one parts.first (front_ended one other ended);
      second = lines_back other parts.second (back_ended one other ended);
      whole = lines_bytes text (one ++ other) h ∙ flat_map-append line_bytes one other;
    }

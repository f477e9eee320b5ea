-- What is written of a text is the text without its old tables, and what was put between.
use Rattle.std.proofs.Common.{◌≡◌, ℕ, Bool, true, false, cond, List, [], ◌∷◌, ◌++◌, is_some, refl, sym, ◌∙◌, ap, subst, append_assoc, append-nil, flat_map, inl, inr, All}
use Rattle.std.specs.List.{enumerate_from}
use Rattle.std.proofs.lemmas.Grind.{flat_map-append}
use Rattle.std.proofs.lemmas.List.Elements.{All-nil, All-cons, All-append}
use Rattle.pbn_deals.specs.declared.boards.Board.{Board}
use Rattle.pbn_deals.specs.Pieces.{ends_with_return, body_of, Line, line_bytes, mark_of}
use Rattle.tables.specs.TablesText.{Printed}
use Rattle.whole_texts.specs.OldTables.{left_of, has_deal}
use Rattle.whole_texts.specs.WholeText.{Game, games_of, section_lines, if_none, first_end, behind}
use Rattle.text_laws.specs.GivenEnds.{new_end, deal_end, with_ends, with_section, dealt_lines, games_lines}
use Rattle.text_laws.specs.Laws.{Segment, OfText, Put, segment_bytes, text_bytes, IsPut, game_without, LoseNothing}
use Rattle.whole_texts.specs.LineEnds.{IsLineEnd}
use Rattle.whole_texts.proofs.Ends.{Ended}
use Rattle.text_laws.proofs.WholeLines.{games_follow, games_whole, deal_ended, first_ended}
use Rattle.text_laws.proofs.WrittenLines.{lines_follow, lines_ended, given_text}
use Rattle.text_laws.proofs.AgainSame.{GamesEnded, games_ended}
use Rattle.tables.specs.declared.results.Renews.{Renews}
use Rattle.whole_texts.proofs.SectionText.{section-text}

-- ---- segments
record Parted (results : ℕ → Printed) (written kept : List ℕ) : Type 0 where
  segments : List Segment
  whole : flat_map segment_bytes segments ≡ written
  kept_is : flat_map text_bytes segments ≡ kept
  put : All (IsPut results) segments

module _ (old : Renews) (results : ℕ → Printed) where
  of_text : (bytes : List ℕ) → Parted results bytes bytes
  of_text bytes = record { segments = OfText bytes ∷ []; whole = append-nil bytes; kept_is = append-nil bytes; put = All-cons (IsPut results) (OfText bytes) [] tt (All-nil (IsPut results)) }

  of_put : (bytes : List ℕ) → IsPut results (Put bytes) → Parted results bytes []
  of_put bytes is = record { segments = Put bytes ∷ []; whole = append-nil bytes; kept_is = refl; put = All-cons (IsPut results) (Put bytes) [] is (All-nil (IsPut results)) }

  join : {written kept written' kept' : List ℕ} → Parted results written kept → Parted results written' kept' → Parted results (written ++ written') (kept ++ kept')
  join {written} {kept} {written'} {kept'} one other = record {
    segments = one.segments ++ other.segments;
    whole = flat_map-append segment_bytes one.segments other.segments ∙ (ap (λ w. w ++ flat_map segment_bytes other.segments) one.whole ∙ ap (λ w. written ++ w) other.whole);
    kept_is = flat_map-append text_bytes one.segments other.segments ∙ (ap (λ w. w ++ flat_map text_bytes other.segments) one.kept_is ∙ ap (λ w. kept ++ w) other.kept_is);
    put = All-append (IsPut results) one.segments other.segments one.put other.put;
  }

  same : {written kept written' kept' : List ℕ} → written ≡ written' → kept ≡ kept' → Parted results written kept → Parted results written' kept'
  same e f h = record { segments = h.segments; whole = h.whole ∙ e; kept_is = h.kept_is ∙ f; put = h.put }

  -- the last line, which may have had no end
  last_parted : (body new end : List ℕ) → IsLineEnd new → Parted results ((body ++ if_none new end) ++ []) ((body ++ end) ++ [])
  last_parted body new [] is =
      same (sym (append-nil (body ++ new))) (sym (append-nil (body ++ []))) (join (of_text body) (of_put new (new, is, inl refl)))
  last_parted body new (byte ∷ bytes) is = of_text ((body ++ (byte ∷ bytes)) ++ [])

  ends_parted : (end : List ℕ) (lines : List Line) → IsLineEnd end → Parted results (flat_map line_bytes (with_ends end lines)) (flat_map line_bytes lines)
  ends_parted end [] is = of_text []
  ends_parted end (line ∷ []) is = last_parted (body_of line.kind) (new_end end line.kind) line.end (go (ends_with_return (body_of line.kind))) where
    go : (b : Bool) → IsLineEnd (cond b (13 ∷ 10 ∷ []) end)
    go true = inl refl
    go false = is
  ends_parted end (line ∷ next ∷ lines) is = join (of_text (line_bytes line)) (ends_parted end (next ∷ lines) is)

  module _ (other : List ℕ) (is_end : IsLineEnd other) where
    -- what is left of a game with a Deal tag, and its section
    dealt_parted : (boards : List (ℕ × Board)) (lines : List Line) → Ended (left_of old lines) → Parted results (flat_map line_bytes (dealt_lines old other results boards lines)) (flat_map line_bytes (left_of old lines))
    dealt_parted [] lines h = of_text (flat_map line_bytes (left_of old lines))
    dealt_parted (numbered ∷ more) lines h = go (is_some numbered.1.deal) where
      left : List Line
      left = left_of old lines

      end : List ℕ
      end = deal_end other left

      is : IsLineEnd end
      is = deal_ended other left is_end h

      section : List Line
      section = section_lines end (results numbered.0)

      go : (b : Bool) → Parted results (flat_map line_bytes (cond b (with_section other (results numbered.0) left) left)) (flat_map line_bytes left)
      go true =
          same (sym (flat_map-append line_bytes (with_ends end left) section)) (append-nil (flat_map line_bytes left))
          (join (ends_parted end left is) (of_put (flat_map line_bytes section) (end, is, inr (numbered.0, section-text end (results numbered.0)))))
      go false = of_text (flat_map line_bytes left)

    apart : (lines gap rest : List Line) → flat_map line_bytes (lines ++ (gap ++ rest)) ≡ flat_map line_bytes lines ++ (flat_map line_bytes gap ++ flat_map line_bytes rest)
    apart lines gap rest = flat_map-append line_bytes lines (gap ++ rest) ∙ ap (λ r. flat_map line_bytes lines ++ r) (flat_map-append line_bytes gap rest)

    games_parted : (boards : List (ℕ × Board)) (games : List Game) → GamesEnded old games → Parted results (flat_map line_bytes (games_lines old other results boards games)) (flat_map line_bytes (flat_map (game_without old) games))
    games_parted boards [] h = of_text []
    games_parted boards (game ∷ games) h = go (has_deal game.lines) (games_parted (behind boards) games h.1) (games_parted boards games h.1) where
      without : List Line
      without = flat_map (game_without old) games

      put_game : {written : List ℕ} (lines rest : List Line) → Parted results written (flat_map line_bytes lines) → Parted results (flat_map line_bytes rest) (flat_map line_bytes without) → Parted results (written ++ (flat_map line_bytes game.gap ++ flat_map line_bytes rest)) (flat_map line_bytes ((lines ++ game.gap) ++ without))
      put_game lines rest one more =
          same refl (sym (apart lines game.gap without) ∙ ap (flat_map line_bytes) (sym (append_assoc lines game.gap without))) (join one (join (of_text (flat_map line_bytes game.gap)) more))

      go : (b : Bool) → Parted results (flat_map line_bytes (games_lines old other results (behind boards) games)) (flat_map line_bytes without) → Parted results (flat_map line_bytes (games_lines old other results boards games)) (flat_map line_bytes without) → Parted results (flat_map line_bytes (cond b (dealt_lines old other results boards game.lines ++ (game.gap ++ games_lines old other results (behind boards) games)) (game.lines ++ (game.gap ++ games_lines old other results boards games)))) (flat_map line_bytes ((cond b (left_of old game.lines) game.lines ++ game.gap) ++ without))
      go true next here =
          same (sym (apart (dealt_lines old other results boards game.lines) game.gap (games_lines old other results (behind boards) games))) refl
          (put_game (left_of old game.lines) (games_lines old other results (behind boards) games) (dealt_parted boards game.lines h.0) next)
      go false next here =
          same (sym (apart game.lines game.gap (games_lines old other results boards games))) refl
          (put_game game.lines (games_lines old other results boards games) (of_text (flat_map line_bytes game.lines)) here)

-- ---- the text
pub lose_nothing : LoseNothing
lose_nothing old text boards results written whole =
    let lines = whole.lines in
    let ended = games_ended old (games_of lines) (games_follow refl (lines_follow text lines whole.read)) (subst Ended (sym (games_whole lines)) (lines_ended text lines whole.read)) in
    let games = games_parted old results (first_end lines) (first_ended lines (lines_ended text lines whole.read)) (enumerate_from 0 boards) (games_of lines) ended in
    let it = join old results (of_text old results (mark_of text)) games in
    record {
      lines = lines;
      read = whole.read;
      segments = it.segments;
      whole = given_text old text boards results written whole ∙ sym it.whole;
      kept = it.kept_is;
      put = it.put;
    }

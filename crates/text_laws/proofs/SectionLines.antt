-- The lines of a section can stand in a text, and are read as what they are.
use Rattle.std.proofs.Common.{◌≡◌, ◌≢◌, ℕ, ◌≤◌, Bool, true, false, cond, List, [], ◌∷◌, ◌++◌, Option, Some, None, refl, sym, ◌∙◌, ap, subst, append-nil, flat_map, map, inl, inr}
use Rattle.std.specs.Prelude.{codes, IfSome}
use Rattle.std.proofs.lemmas.Bool.{eqb-false, cases_Bool}
use Rattle.std.proofs.lemmas.List.Elements.{All-weaker}
use Rattle.cards.specs.declared.seats.Seat.{Seat}
use Rattle.cards.specs.declared.seats.Seat.TheVariants.{North, East, South, West}
use Rattle.cards.specs.declared.suits.Trump.{Trump}
use Rattle.pbn_deals.specs.Lines.{is_line_feed, without_return}
use Rattle.pbn_deals.specs.Reading.{Lacks, IsData, meaning_of}
use Rattle.pbn_deals.specs.Pieces.{Comment, is_data, ends_with_return, HasPieces, at_line_end, section_data, line_comment, tag_pair, Kind, OfGame, LineIs, is_of_game, Line}
use Rattle.pbn_deals.proofs.LinesOfText.{body_of-line}
use Rattle.pbn_deals.proofs.RowsBack.{IsEnded, Follow, follow_none, follow_line}
use Rattle.std.specs.List.{AllZip}
use Rattle.par.specs.Texts.{score_text, contracts_text}
use Rattle.tables.specs.declared.pars.BoardPar.{BoardPar}
use Rattle.tables.specs.declared.pars.BoardPar.TheVariants.{Known, NoDealer, NoVulnerability}
use Rattle.tables.specs.ParText.{tag_text, IsSmallPar, par_bodies}
use Rattle.text_laws.proofs.ParTexts.{score-calm, contracts-calm}
use Rattle.tables.specs.TablesText.{Results, Printed, entries, row_text, is_complete, published_count, table_tag, incomplete_text}
use Rattle.text_laws.proofs.LinesBack.{IsLine, IsQuiet}
use Rattle.text_laws.proofs.CalmTexts.{is_calm, IsQuiet-from_calm, calm-no_quote}
use Rattle.text_laws.proofs.BoardsBack.{IsIdle, par-idle, score_tag_of, contracts_tag_of, row_text-calm, row-idle, table_tag-idle, incomplete-idle, published_count-le}
use Rattle.text_laws.proofs.PageLines.{AreSmall}
use Rattle.whole_texts.specs.LineEnds.{IsLineEnd}
use Rattle.whole_texts.specs.WholeText.{as_data, row_lines, entry_lines, table_pair, table_lines, par_pair, with_end, par_kinds, section_lines}
use Rattle.whole_texts.proofs.Ends.{AllEnded}

pub all_append : (lines others : List Line) → AllEnded lines → AllEnded others → AllEnded (lines ++ others)
all_append [] others h g = g
all_append (line ∷ lines) others h g = (h.0, all_append lines others h.1 g)

return_shortens : (bytes : List ℕ) → ends_with_return bytes ≡ true → without_return bytes ≡ bytes → ⊥
return_shortens [] e f = cc
return_shortens (byte ∷ []) e f = let none : [] ≡ byte ∷ [] = sym (ap (λ b. cond b [] (byte ∷ [])) e) ∙ f in absurd (cc)
return_shortens (byte ∷ other ∷ bytes) e f = let tails : without_return (other ∷ bytes) ≡ other ∷ bytes = cc in return_shortens (other ∷ bytes) e tails

-- a line that is read as it was printed, with an end
pub printed_ended : (line end : List ℕ) → IsLine line → IsLineEnd end → IsEnded (record { bytes = line; end = end })
printed_ended line end is e =
    let lacks : Lacks 10 line = All-weaker (λ byte. is_line_feed byte ≡ false) (λ byte. byte ≢ 10) (λ byte n. eqb-false byte 10 n) line is.no_feed in
    let stays : ends_with_return line ≡ false = elim (cases_Bool (ends_with_return line)) [ inl t ↦ absurd (return_shortens line t is.no_return) | inr f ↦ f ] in
    elim e [
      | inl r ↦ (lacks, inl r)
      | inr f ↦ (lacks, inr (f, stays))
    ]

-- ---- rows
data_row : (bytes : List ℕ) → IsQuiet bytes → HasPieces true bytes (as_data bytes) false
data_row [] h = at_line_end
data_row (byte ∷ bytes) (inl blank, more) = section_data (ap (is_data true) blank) (data_row bytes more)
data_row (byte ∷ bytes) (inr plain, more) = section_data (ap (is_data true) plain) (data_row bytes more)

quiet_tail : (byte : ℕ) (bytes : List ℕ) → IsQuiet (byte ∷ bytes) → IsQuiet bytes
quiet_tail byte bytes h = h.1

row_first : (declarer : Seat) (denomination : Trump) (tricks : ℕ) → (byte : ℕ) × (bytes : List ℕ) × (row_text declarer denomination tricks ≡ byte ∷ bytes) × (meaning_of byte ≡ IsData)
unfolding row_text
row_first North denomination tricks = (78, _, refl, refl)
row_first East denomination tricks = (69, _, refl, refl)
row_first South denomination tricks = (83, _, refl, refl)
row_first West denomination tricks = (87, _, refl, refl)

row_pieces : (text : List ℕ) (byte : ℕ) (bytes : List ℕ) → text ≡ byte ∷ bytes → meaning_of byte ≡ IsData → IsQuiet text → HasPieces false text (as_data text) false
row_pieces text byte bytes e m h =
    subst (λ t. HasPieces false t (as_data t) false) (sym e)
    (section_data (ap (is_data false) m) (data_row bytes (quiet_tail byte bytes (subst IsQuiet e h))))

pub row_line : (declarer : Seat) (denomination : Trump) (tricks : ℕ) → tricks ≤ 13 → LineIs false (row_text declarer denomination tricks) (OfGame (as_data (row_text declarer denomination tricks))) false
row_line declarer denomination tricks h =
    let idle = row-idle declarer denomination tricks h in
    let first = row_first declarer denomination tricks in
    is_of_game idle.not_escaped idle.not_blank
    (row_pieces (row_text declarer denomination tricks) first.0 first.1 first.2 first.3 (IsQuiet-from_calm (row_text declarer denomination tricks) (row_text-calm declarer denomination tricks h)))

-- ---- the heading, and the line in its place
table_line : LineIs false table_tag (OfGame (table_pair ∷ [])) false
unfolding table_tag
table_line =
    is_of_game refl refl
    (tag_pair (codes "OptimumResultTable " ++ (34 ∷ codes "Declarer;Denomination") ++ (92 ∷ codes "2R;Result") ++ (92 ∷ codes "2R") ++ (34 ∷ 93 ∷ []))
    {tag = record { name = codes "OptimumResultTable"; value = codes "Declarer;Denomination" ++ (92 ∷ codes "2R;Result") ++ (92 ∷ codes "2R"); rest = [] }}
    refl refl refl at_line_end)

count_line : (count : ℕ) → LineIs false (incomplete_text count) (OfGame (Comment (incomplete_text count) ∷ [])) false
unfolding incomplete_text
count_line count = is_of_game refl refl (line_comment refl)

-- ---- a table
rows_follow : (end : List ℕ) (results : Results) (some : List (Seat × Trump)) → AreSmall results → Follow false (flat_map (entry_lines end results) some) false
rows_follow end results [] small = follow_none
rows_follow end results (entry ∷ some) small = go (results entry.0 entry.1) (small entry.0 entry.1) (rows_follow end results some small) where
  go : (result : Option ℕ) → IfSome result (λ tricks. tricks ≤ 13) → Follow false (flat_map (entry_lines end results) some) false → Follow false (row_lines end entry.0 entry.1 result ++ flat_map (entry_lines end results) some) false
  go None h more = more
  go (Some tricks) h more = follow_line (row_line entry.0 entry.1 tricks h) more

table_follows : (end : List ℕ) (results : Results) → AreSmall results → Follow false (table_lines end results) false
table_follows end results small = go (is_complete results) where
  go : (b : Bool) → Follow false (cond b (record { kind = OfGame (table_pair ∷ []); end = end } ∷ flat_map (entry_lines end results) entries) (record { kind = OfGame (Comment (incomplete_text (published_count results)) ∷ []); end = end } ∷ [])) false
  go true = follow_line table_line (rows_follow end results entries small)
  go false = follow_line (count_line (published_count results)) follow_none

rows_ended : (end : List ℕ) (results : Results) (some : List (Seat × Trump)) → IsLineEnd end → AreSmall results → AllEnded (flat_map (entry_lines end results) some)
rows_ended end results [] e small = tt
rows_ended end results (entry ∷ some) e small = go (results entry.0 entry.1) (small entry.0 entry.1) (rows_ended end results some e small) where
  go : (result : Option ℕ) → IfSome result (λ tricks. tricks ≤ 13) → AllEnded (flat_map (entry_lines end results) some) → AllEnded (row_lines end entry.0 entry.1 result ++ flat_map (entry_lines end results) some)
  go None h more = more
  go (Some tricks) h more =
      let text = row_text entry.0 entry.1 tricks in
      let ended = printed_ended text end (row-idle entry.0 entry.1 tricks h).as_line e in
      (subst (λ b. IsEnded (record { bytes = b; end = end })) (sym (body_of-line (row_line entry.0 entry.1 tricks h))) ended, more)

table_ended : (end : List ℕ) (results : Results) → IsLineEnd end → AreSmall results → AllEnded (table_lines end results)
table_ended end results e small = go (is_complete results) where
  count : ℕ
  count = published_count results

  go : (b : Bool) → AllEnded (cond b (record { kind = OfGame (table_pair ∷ []); end = end } ∷ flat_map (entry_lines end results) entries) (record { kind = OfGame (Comment (incomplete_text count) ∷ []); end = end } ∷ []))
  go true =
      let ended = printed_ended table_tag end table_tag-idle.as_line e in
      (subst (λ b. IsEnded (record { bytes = b; end = end })) (sym (body_of-line table_line)) ended, rows_ended end results entries e small)
  go false =
      let ended = printed_ended (incomplete_text count) end (incomplete-idle count (published_count-le results)).as_line e in
      (subst (λ b. IsEnded (record { bytes = b; end = end })) (sym (body_of-line (count_line count))) ended, tt)

-- ---- the lines of par
score_line : (value : List ℕ) → is_calm value ≡ true → LineIs false (tag_text (codes "OptimumScore") value) (par_pair (codes "OptimumScore") value) false
unfolding tag_text
score_line value calm =
    is_of_game refl refl
    (tag_pair (codes "OptimumScore " ++ (34 ∷ (value ++ (34 ∷ 93 ∷ []))))
    {tag = record { name = codes "OptimumScore"; value = value; rest = [] }}
    refl (score_tag_of value (calm-no_quote value calm)) (sym (append-nil (codes "OptimumScore " ++ (34 ∷ (value ++ (34 ∷ 93 ∷ [])))))) at_line_end)

contracts_line : (value : List ℕ) → is_calm value ≡ true → LineIs false (tag_text (codes "ParContract") value) (par_pair (codes "ParContract") value) false
unfolding tag_text
contracts_line value calm =
    is_of_game refl refl
    (tag_pair (codes "ParContract " ++ (34 ∷ (value ++ (34 ∷ 93 ∷ []))))
    {tag = record { name = codes "ParContract"; value = value; rest = [] }}
    refl (contracts_tag_of value (calm-no_quote value calm)) (sym (append-nil (codes "ParContract " ++ (34 ∷ (value ++ (34 ∷ 93 ∷ [])))))) at_line_end)

no_dealer_line : LineIs false (codes "; par unknown: no dealer") (OfGame (Comment (codes "; par unknown: no dealer") ∷ [])) false
no_dealer_line = is_of_game refl refl (line_comment refl)

no_vulnerability_line : LineIs false (codes "; par unknown: no vulnerability") (OfGame (Comment (codes "; par unknown: no vulnerability") ∷ [])) false
no_vulnerability_line = is_of_game refl refl (line_comment refl)

-- a line of par: it is read as what it is, and was printed as one line
record IsParLine (body : List ℕ) (kind : Kind) : Type 0 where
  read : LineIs false body kind false
  idle : IsIdle body

par_lines_are : (par : Option BoardPar) → IfSome par IsSmallPar → AllZip IsParLine (par_bodies par) (par_kinds par)
par_lines_are None small = tt
par_lines_are (Some (Known dealer vulnerable score contracts)) small =
    let idle = par-idle (Some (Known dealer vulnerable score contracts)) small in
    (record { read = score_line (score_text score) (score-calm score small.0); idle = idle.0 }, (record { read = contracts_line (contracts_text contracts.items) (contracts-calm contracts.items small.1); idle = idle.1.0 }, tt))
par_lines_are (Some NoDealer) small = let idle = par-idle (Some NoDealer) small in (record { read = no_dealer_line; idle = idle.0 }, tt)
par_lines_are (Some NoVulnerability) small = let idle = par-idle (Some NoVulnerability) small in (record { read = no_vulnerability_line; idle = idle.0 }, tt)

lines_follow_bodies : (end : List ℕ) (bodies : List (List ℕ)) (kinds : List Kind) (others : List Line) → AllZip IsParLine bodies kinds → Follow false others false → Follow false (map (with_end end) kinds ++ others) false
lines_follow_bodies end [] [] others all more = more
lines_follow_bodies end [] (kind ∷ kinds) others all more = absurd all
lines_follow_bodies end (body ∷ bodies) [] others all more = absurd all
lines_follow_bodies end (body ∷ bodies) (kind ∷ kinds) others all more = follow_line all.0.read (lines_follow_bodies end bodies kinds others all.1 more)

lines_ended_bodies : (end : List ℕ) (bodies : List (List ℕ)) (kinds : List Kind) → IsLineEnd end → AllZip IsParLine bodies kinds → AllEnded (map (with_end end) kinds)
lines_ended_bodies end [] [] e all = tt
lines_ended_bodies end [] (kind ∷ kinds) e all = absurd all
lines_ended_bodies end (body ∷ bodies) [] e all = absurd all
lines_ended_bodies end (body ∷ bodies) (kind ∷ kinds) e all =
    (subst (λ b. IsEnded (record { bytes = b; end = end })) (sym (body_of-line all.0.read)) (printed_ended body end all.0.idle.as_line e), lines_ended_bodies end bodies kinds e all.1)

-- ---- a section
pub section_follows : (end : List ℕ) (printed : Printed) → AreSmall printed.results → IfSome printed.par IsSmallPar → Follow false (section_lines end printed) false
section_follows end printed small pars = lines_follow_bodies end (par_bodies printed.par) (par_kinds printed.par) (table_lines end printed.results) (par_lines_are printed.par pars) (table_follows end printed.results small)

pub section_ended : (end : List ℕ) (printed : Printed) → IsLineEnd end → AreSmall printed.results → IfSome printed.par IsSmallPar → AllEnded (section_lines end printed)
section_ended end printed e small pars = all_append (map (with_end end) (par_kinds printed.par)) (table_lines end printed.results) (lines_ended_bodies end (par_bodies printed.par) (par_kinds printed.par) e (par_lines_are printed.par pars)) (table_ended end printed.results e small)

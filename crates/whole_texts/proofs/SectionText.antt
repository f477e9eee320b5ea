-- The text of the lines of a section.
use Rattle.std.proofs.Common.{◌≡◌, ℕ, Bool, true, false, cond, List, [], ◌∷◌, ◌++◌, Option, Some, None, refl, ◌∙◌, ap, append-nil, flat_map, map}
use Rattle.std.proofs.lemmas.Grind.{flat_map-append}
use Rattle.cards.specs.declared.seats.Seat.{Seat}
use Rattle.cards.specs.declared.suits.Trump.{Trump}
use Rattle.pbn_deals.specs.Pieces.{Comment, bytes_of, OfGame, line_bytes}
use Rattle.tables.specs.TablesText.{Results, Printed, entries, row_text, result_row, entry_row, rows_text, is_complete, published_count, table_tag, incomplete_text, table_text, section_text}
use Rattle.std.specs.Prelude.{codes}
use Rattle.par.specs.Texts.{score_text, contracts_text}
use Rattle.tables.specs.declared.pars.BoardPar.{BoardPar}
use Rattle.tables.specs.declared.pars.BoardPar.TheVariants.{Known, NoDealer, NoVulnerability}
use Rattle.tables.specs.ParText.{tag_text, body_line, par_bodies, par_text}
use Rattle.whole_texts.specs.WholeText.{as_data, row_lines, entry_lines, table_pair, table_lines, with_end, par_kinds, section_lines}

pub as_data-bytes : (bytes : List ℕ) → flat_map bytes_of (as_data bytes) ≡ bytes
as_data-bytes [] = refl
as_data-bytes (byte ∷ bytes) = ap (λ x. byte ∷ x) (as_data-bytes bytes)

rows-text : (end : List ℕ) (results : Results) (some : List (Seat × Trump)) → flat_map line_bytes (flat_map (entry_lines end results) some) ≡ flat_map (entry_row end results) some
rows-text end results [] = refl
rows-text end results (entry ∷ some) = go (results entry.0 entry.1) (rows-text end results some) where
  go : (result : Option ℕ) → flat_map line_bytes (flat_map (entry_lines end results) some) ≡ flat_map (entry_row end results) some → flat_map line_bytes (row_lines end entry.0 entry.1 result ++ flat_map (entry_lines end results) some) ≡ result_row end entry.0 entry.1 result ++ flat_map (entry_row end results) some
  go None more = more
  go (Some tricks) more = ap (λ b. (b ++ end) ++ flat_map line_bytes (flat_map (entry_lines end results) some)) (as_data-bytes (row_text entry.0 entry.1 tricks)) ∙ ap (λ r. (row_text entry.0 entry.1 tricks ++ end) ++ r) more

pub table-text : (end : List ℕ) (results : Results) → flat_map line_bytes (table_lines end results) ≡ table_text end results
unfolding table_text rows_text
table-text end results = go (is_complete results) where
  count : List ℕ
  count = incomplete_text (published_count results)

  rows : List ℕ
  rows = flat_map (entry_row end results) entries

  go : (b : Bool) → flat_map line_bytes (cond b (record { kind = OfGame (table_pair ∷ []); end = end } ∷ flat_map (entry_lines end results) entries) (record { kind = OfGame (Comment count ∷ []); end = end } ∷ [])) ≡ cond b ((table_tag ++ end) ++ rows) (count ++ end)
  go true = ap (λ t. (t ++ end) ++ flat_map line_bytes (flat_map (entry_lines end results) entries)) (append-nil table_tag) ∙ ap (λ r. (table_tag ++ end) ++ r) (rows-text end results entries)
  go false = append-nil ((count ++ []) ++ end) ∙ ap (λ t. t ++ end) (append-nil count)

-- the lines of a par
par-text : (end : List ℕ) (par : Option BoardPar) → flat_map line_bytes (map (with_end end) (par_kinds par)) ≡ flat_map (body_line end) (par_bodies par)
par-text end None = refl
par-text end (Some (Known dealer vulnerable score contracts)) =
    let one = tag_text (codes "OptimumScore") (score_text score) in
    let two = tag_text (codes "ParContract") (contracts_text contracts.items) in
    ap (λ (t : List ℕ). (t ++ end) ++ (((two ++ []) ++ end) ++ [])) (append-nil one) ∙ ap (λ (t : List ℕ). (one ++ end) ++ ((t ++ end) ++ [])) (append-nil two)
par-text end (Some NoDealer) = ap (λ (t : List ℕ). (t ++ end) ++ []) (append-nil (codes "; par unknown: no dealer"))
par-text end (Some NoVulnerability) = ap (λ (t : List ℕ). (t ++ end) ++ []) (append-nil (codes "; par unknown: no vulnerability"))

pub section-text : (end : List ℕ) (printed : Printed) → flat_map line_bytes (section_lines end printed) ≡ section_text end printed
unfolding section_text par_text
section-text end printed =
    flat_map-append line_bytes (map (with_end end) (par_kinds printed.par)) (table_lines end printed.results)
    ∙ (ap (λ (t : List ℕ). t ++ flat_map line_bytes (table_lines end printed.results)) (par-text end printed.par)
    ∙ ap (λ (t : List ℕ). flat_map (body_line end) (par_bodies printed.par) ++ t) (table-text end printed.results))

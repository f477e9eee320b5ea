-- The lines that are written of a text follow one another, and can stand in a text.
use Rattle.std.proofs.Common.{◌≡◌, ℕ, Bool, true, false, cond, ◌&&◌, List, [], ◌∷◌, ◌++◌, is_some, refl, sym, ◌∙◌, ap, subst, append_assoc, append-nil, flat_map, inl, inr, ◌⊎◌}
use Rattle.std.specs.List.{list_all}
use Rattle.pbn_deals.specs.declared.boards.Board.{Board}
use Rattle.pbn_deals.specs.Pieces.{Piece, bytes_of, ends_with_return, Kind, OfGame, body_of, LineIs, is_escaped_line, is_gap, is_of_game, is_in_comment, closes_comment, Line}
use Rattle.pbn_deals.proofs.RowsBack.{IsEnded, Follow, follow_none, follow_line, follow_append}
use Rattle.text_laws.specs.ReadBack.{AreTricks}
use Rattle.tables.specs.TablesText.{Printed, line_feed}
use Rattle.whole_texts.specs.LineEnds.{IsLineEnd}
use Rattle.whole_texts.specs.OldTables.{left_pieces, table_behind, has_more, without_tables, is_count, is_escaped_kind, without_counts, left_of, is_deal_kind, has_deal}
use Rattle.whole_texts.specs.WholeText.{Game, put_line, is_gap_kind, games_of, section_lines, if_none, first_end, behind}
use Rattle.text_laws.specs.GivenEnds.{new_end, deal_end, with_ends, with_section, dealt_lines, games_lines}
use Rattle.whole_texts.proofs.Ends.{Ended, AllEnded, ended_split}
use Rattle.text_laws.proofs.LeftLines.{ended_line, left_follows, counts_follow}
use Rattle.text_laws.proofs.Ends.{left_of_ended, tail_ended}
use Rattle.text_laws.proofs.SectionLines.{all_append, section_follows, section_ended}
use Rattle.tables.specs.declared.results.Renews.{Renews}

-- ---- what is left of a game
pub left_of_follows : (old : Renews) {lines : List Line} → Follow false lines false → Follow false (left_of old lines) false
left_of_follows old h = counts_follow old (left_follows old false h)

-- all of them have ends
line_all : (old : Renews) (in_table : Bool) {is_open last : Bool} {line : List ℕ} {those : List Piece} (end : List ℕ) (left : List Line) (b : Bool) → LineIs is_open line (OfGame those) last → IsEnded (record { bytes = flat_map bytes_of those; end = end }) → AllEnded left → AllEnded (cond b (record { kind = OfGame (left_pieces old in_table those); end = end } ∷ left) left)
line_all old in_table end left true l h more = (ended_line old in_table end l h, more)
line_all old in_table end left false l h more = more

left_all : (old : Renews) (in_table : Bool) {is_open last : Bool} {lines : List Line} → Follow is_open lines last → AllEnded lines → AllEnded (without_tables old in_table lines)
left_all old in_table follow_none h = tt
left_all old in_table (follow_line (is_escaped_line e) r) h = (h.0, left_all old in_table r h.1)
left_all old in_table (follow_line (is_gap e b) r) h = (h.0, left_all old in_table r h.1)
left_all old in_table (follow_line {end = end} {lines} (is_of_game {pieces = those} e b p) r) h =
    line_all old in_table end (without_tables old (table_behind old in_table those) lines) (has_more (left_pieces old in_table those)) (is_of_game e b p) h.0 (left_all old (table_behind old in_table those) r h.1)
left_all old in_table (follow_line (is_in_comment l) r) h = (h.0, left_all old in_table r h.1)
left_all old in_table (follow_line {end = end} {lines} (closes_comment text {pieces = those} e l p) r) h =
    (ended_line old in_table end (closes_comment text e l p) h.0, left_all old (table_behind old in_table those) r h.1)

counts_all : (old : Renews) (lines : List Line) → AllEnded lines → AllEnded (without_counts old lines)
counts_all old [] h = tt
counts_all old (line ∷ lines) h = go (is_count old line.kind && list_all (λ other. is_escaped_kind other.kind) (without_counts old lines)) (counts_all old lines h.1) where
  go : (b : Bool) → AllEnded (without_counts old lines) → AllEnded (cond b (without_counts old lines) (line ∷ without_counts old lines))
  go true more = more
  go false more = (h.0, more)

left_of_all : (old : Renews) {lines : List Line} → Follow false lines false → AllEnded lines → AllEnded (left_of old lines)
left_of_all old {lines} f h = counts_all old (without_tables old false lines) (left_all old false f h)

-- ---- ends
pub ends_follow : (end : List ℕ) {is_open last : Bool} {lines : List Line} → Follow is_open lines last → Follow is_open (with_ends end lines) last
ends_follow end follow_none = follow_none
ends_follow end (follow_line l follow_none) = follow_line l follow_none
ends_follow end (follow_line l (follow_line l' r)) = follow_line l (ends_follow end (follow_line l' r))

new_ended : (end : List ℕ) (kind : Kind) → IsLineEnd end → IsLineEnd (new_end end kind)
new_ended end kind e = go (ends_with_return (body_of kind)) where
  go : (b : Bool) → IsLineEnd (cond b (13 ∷ 10 ∷ []) end)
  go true = inl refl
  go false = e

-- a line that had no end
given_end : (end : List ℕ) (line : Line) → IsLineEnd end → (n : List ℕ) → n ≡ new_end end line.kind → (b : Bool) → ends_with_return (body_of line.kind) ≡ b → (n ≡ 13 ∷ 10 ∷ []) ⊎ ((n ≡ 10 ∷ []) × (ends_with_return (body_of line.kind) ≡ false))
given_end end line e n is true r = inl (is ∙ ap (λ b. cond b (13 ∷ 10 ∷ []) end) r)
given_end end line (inl e) n is false r = inl (is ∙ (ap (λ b. cond b (13 ∷ 10 ∷ []) end) r ∙ e))
given_end end line (inr e) n is false r = inr (is ∙ (ap (λ b. cond b (13 ∷ 10 ∷ []) end) r ∙ e), r)

last_given : (end : List ℕ) (line : Line) → IsLineEnd end → Ended (line ∷ []) → IsEnded (record { bytes = body_of line.kind; end = if_none (new_end end line.kind) line.end })
last_given end line e (inl ((lacks, inl r), more)) = (lacks, inl (ap (if_none (new_end end line.kind)) r))
last_given end line e (inl ((lacks, inr (f, n)), more)) = (lacks, inr (ap (if_none (new_end end line.kind)) f, n))
last_given end line e (inr ((lacks, none, w), m)) =
    (lacks, given_end end line e (if_none (new_end end line.kind) line.end) (ap (if_none (new_end end line.kind)) none) (ends_with_return (body_of line.kind)) refl)

pub given_ends : (end : List ℕ) (lines : List Line) → IsLineEnd end → Ended lines → AllEnded (with_ends end lines)
given_ends end [] e h = tt
given_ends end (line ∷ []) e h = (last_given end line e h, tt)
given_ends end (line ∷ next ∷ lines) e (inl (is, more)) = (is, given_ends end (next ∷ lines) e more)
given_ends end (line ∷ next ∷ lines) e (inr (u, n)) = absurd (cc)

some_end : (other : List ℕ) (line : Line) → IsLineEnd other → (lines : List Line) → Ended (line ∷ lines) → IsLineEnd (if_none other line.end)
some_end other line e lines (inl ((lacks, inl r), more)) = inl (ap (if_none other) r)
some_end other line e lines (inl ((lacks, inr (f, n)), more)) = inr (ap (if_none other) f)
some_end other line e lines (inr ((lacks, none, w), m)) = subst (λ x. IsLineEnd (if_none other x)) (sym none) e

pub deal_ended : (other : List ℕ) (lines : List Line) → IsLineEnd other → Ended lines → IsLineEnd (deal_end other lines)
deal_ended other [] e h = e
deal_ended other (line ∷ lines) e h = go (is_deal_kind line.kind) (deal_ended other lines e (tail_ended line lines h)) where
  go : (b : Bool) → IsLineEnd (deal_end other lines) → IsLineEnd (cond b (if_none (new_end other line.kind) line.end) (deal_end other lines))
  go true more = some_end (new_end other line.kind) line (new_ended other line.kind e) lines h
  go false more = more

pub first_ended : (lines : List Line) → Ended lines → IsLineEnd (first_end lines)
first_ended [] h = inr refl
first_ended (line ∷ lines) h = some_end line_feed line (inr refl) lines h

-- ---- one list of lines behind another
pub ended_join : (lines others : List Line) → AllEnded lines → Ended others → Ended (lines ++ others)
ended_join [] others h g = g
ended_join (line ∷ lines) others h g = inl (h.0, ended_join lines others h.1 g)

all_ended : (lines : List Line) → AllEnded lines → Ended lines
all_ended [] h = tt
all_ended (line ∷ lines) h = inl (h.0, all_ended lines h.1)

-- ---- games
abbrev pub GamesFollow : Bool → List Game → Type 0
GamesFollow is_open [] = Unit {0}
GamesFollow is_open (game ∷ games) = Follow is_open game.lines false × Follow false game.gap false × GamesFollow false games

put_follows : {is_open is_open' : Bool} {bytes : List ℕ} {kind : Kind} (end : List ℕ) (games : List Game) → LineIs is_open bytes kind is_open' → GamesFollow is_open' games → GamesFollow is_open (put_line (record { kind = kind; end = end }) games)
put_follows end [] l h = tt
put_follows end (game ∷ games) l h = (follow_line l h.0, h.1, h.2)

pub games_follow : {is_open last : Bool} {lines : List Line} → last ≡ false → Follow is_open lines last → GamesFollow is_open (games_of lines)
games_follow e (follow_none {is_open}) = (subst (λ o. Follow is_open [] o) e follow_none, follow_none, tt)
games_follow e (follow_line {end = end} {lines} (is_escaped_line f) r) = put_follows end (games_of lines) (is_escaped_line f) (games_follow e r)
games_follow e (follow_line (is_gap f b) r) = (follow_none, follow_line (is_gap f b) follow_none, games_follow e r)
games_follow e (follow_line {end = end} {lines} (is_of_game f b p) r) = put_follows end (games_of lines) (is_of_game f b p) (games_follow e r)
games_follow e (follow_line {end = end} {lines} (is_in_comment l) r) = put_follows end (games_of lines) (is_in_comment l) (games_follow e r)
games_follow e (follow_line {end = end} {lines} (closes_comment text f l p) r) = put_follows end (games_of lines) (closes_comment text f l p) (games_follow e r)

-- the lines of games, one after another
abbrev pub lines_of_games : List Game → List Line
lines_of_games games = flat_map (λ game. game.lines ++ game.gap) games

some_games : (lines : List Line) → (game : Game) × (games : List Game) × (games_of lines ≡ game ∷ games)
some_games [] = (record { lines = []; gap = [] }, [], refl)
some_games (line ∷ lines) = go (is_gap_kind line.kind) (some_games lines) where
  go : (b : Bool) → ((game : Game) × (games : List Game) × (games_of lines ≡ game ∷ games)) → (game : Game) × (games : List Game) × (cond b (record { lines = []; gap = line ∷ [] } ∷ games_of lines) (put_line line (games_of lines)) ≡ game ∷ games)
  go true more = (_, _, refl)
  go false more = (record { lines = line ∷ more.0.lines; gap = more.0.gap }, more.1, ap (put_line line) more.2)

pub games_whole : (lines : List Line) → lines_of_games (games_of lines) ≡ lines
games_whole [] = refl
games_whole (line ∷ lines) = go (is_gap_kind line.kind) (games_whole lines) (some_games lines) where
  go : (b : Bool) → lines_of_games (games_of lines) ≡ lines → ((game : Game) × (games : List Game) × (games_of lines ≡ game ∷ games)) → lines_of_games (cond b (record { lines = []; gap = line ∷ [] } ∷ games_of lines) (put_line line (games_of lines))) ≡ line ∷ lines
  go true whole more = ap (λ x. line ∷ x) whole
  go false whole more = ap (λ g. lines_of_games (put_line line g)) more.2 ∙ ap (λ x. line ∷ x) (sym (ap lines_of_games more.2) ∙ whole)

-- ---- the whole
module _ (old : Renews) (other : List ℕ) (results : ℕ → Printed) (small : AreTricks results) where
  dealt_follows : (boards : List (ℕ × Board)) {lines : List Line} → Follow false lines false → Follow false (dealt_lines old other results boards lines) false
  dealt_follows [] h = left_of_follows old h
  dealt_follows (numbered ∷ more) {lines} h = go (is_some numbered.1.deal) where
    go : (b : Bool) → Follow false (cond b (with_section other (results numbered.0) (left_of old lines)) (left_of old lines)) false
    go true = follow_append (ends_follow (deal_end other (left_of old lines)) (left_of_follows old h)) (section_follows (deal_end other (left_of old lines)) (results numbered.0) (small.at_most numbered.0) (small.pars numbered.0))
    go false = left_of_follows old h

  pub whole_follows : (boards : List (ℕ × Board)) (games : List Game) → GamesFollow false games → Follow false (games_lines old other results boards games) false
  whole_follows boards [] h = follow_none
  whole_follows boards (game ∷ games) h = go (has_deal game.lines) (whole_follows (behind boards) games h.2) (whole_follows boards games h.2) where
    go : (b : Bool) → Follow false (games_lines old other results (behind boards) games) false → Follow false (games_lines old other results boards games) false → Follow false (cond b (dealt_lines old other results boards game.lines ++ (game.gap ++ games_lines old other results (behind boards) games)) (game.lines ++ (game.gap ++ games_lines old other results boards games))) false
    go true next same = follow_append (dealt_follows boards h.0) (follow_append h.1 next)
    go false next same = follow_append h.0 (follow_append h.1 same)

  module _ (is_end : IsLineEnd other) where
    section_all : (place : ℕ) {lines : List Line} → Follow false lines false → Ended lines → AllEnded (with_section other (results place) (left_of old lines))
    section_all place {lines} f h =
        let left = left_of_ended old f h in
        let end = deal_ended other (left_of old lines) is_end left in
        all_append (with_ends (deal_end other (left_of old lines)) (left_of old lines)) (section_lines (deal_end other (left_of old lines)) (results place)) (given_ends (deal_end other (left_of old lines)) (left_of old lines) end left) (section_ended (deal_end other (left_of old lines)) (results place) end (small.at_most place) (small.pars place))

    dealt_all : (boards : List (ℕ × Board)) {lines : List Line} → Follow false lines false → AllEnded lines → AllEnded (dealt_lines old other results boards lines)
    dealt_all [] f h = left_of_all old f h
    dealt_all (numbered ∷ more) {lines} f h = go (is_some numbered.1.deal) where
      go : (b : Bool) → AllEnded (cond b (with_section other (results numbered.0) (left_of old lines)) (left_of old lines))
      go true = section_all numbered.0 f (all_ended lines h)
      go false = left_of_all old f h

    dealt_ended : (boards : List (ℕ × Board)) {lines : List Line} → Follow false lines false → Ended lines → Ended (dealt_lines old other results boards lines)
    dealt_ended [] f h = left_of_ended old f h
    dealt_ended (numbered ∷ more) {lines} f h = go (is_some numbered.1.deal) where
      go : (b : Bool) → Ended (cond b (with_section other (results numbered.0) (left_of old lines)) (left_of old lines))
      go true = all_ended (with_section other (results numbered.0) (left_of old lines)) (section_all numbered.0 f h)
      go false = left_of_ended old f h

    -- where there are no lines, none are written
    no_rest : (lines others : List Line) → lines ++ others ≡ [] → (lines ≡ []) × (others ≡ [])
    no_rest [] others e = (refl, e)
    no_rest (line ∷ lines) others e = absurd (cc)

    none_whole : (boards : List (ℕ × Board)) (games : List Game) → lines_of_games games ≡ [] → games_lines old other results boards games ≡ []
    none_whole boards [] e = refl
    none_whole boards (game ∷ games) e =
        let here = no_rest (game.lines ++ game.gap) (lines_of_games games) e in
        let parts = no_rest game.lines game.gap here.0 in
        let next = games_lines old other results (behind boards) games in
        let same = games_lines old other results boards games in
        subst (λ l. cond (has_deal l) (dealt_lines old other results boards l ++ (game.gap ++ next)) (l ++ (game.gap ++ same)) ≡ []) (sym parts.0)
        (ap (λ g. g ++ same) parts.1 ∙ none_whole boards games here.1)

    -- the gap behind a game, and the games behind it
    rest_ended : (gap rest rest' : List Line) → Ended (gap ++ rest) → (Ended rest → Ended rest') → (rest ≡ [] → rest' ≡ []) → Ended (gap ++ rest')
    rest_ended gap rest rest' h goes none =
        elim (ended_split gap rest h) [
          | inl (all, more) ↦ ended_join gap rest' all (goes more)
          | inr (some, no_more) ↦ subst (λ r. Ended (gap ++ r)) (sym (none no_more)) (subst Ended (sym (append-nil gap)) some)
        ]

    nothing_behind : (lines rest : List Line) → rest ≡ [] → Ended lines → Ended (lines ++ rest)
    nothing_behind lines rest e h = subst (λ r. Ended (lines ++ r)) (sym e) (subst Ended (sym (append-nil lines)) h)

    pub whole_ended : (boards : List (ℕ × Board)) (games : List Game) → GamesFollow false games → Ended (lines_of_games games) → Ended (games_lines old other results boards games)
    whole_ended boards [] f h = tt
    whole_ended boards (game ∷ games) f h =
        go (has_deal game.lines) (ended_split game.lines (game.gap ++ rest) (subst Ended (append_assoc game.lines game.gap rest) h)) (whole_ended (behind boards) games f.2) (whole_ended boards games f.2)
      where
        rest : List Line
        rest = lines_of_games games

        next : List Line
        next = games_lines old other results (behind boards) games

        same : List Line
        same = games_lines old other results boards games

        none_behind : (boards' : List (ℕ × Board)) → game.gap ++ rest ≡ [] → game.gap ++ games_lines old other results boards' games ≡ []
        none_behind boards' e = let parts = no_rest game.gap rest e in ap (λ g. g ++ games_lines old other results boards' games) parts.0 ∙ none_whole boards' games parts.1

        go : (b : Bool) → (AllEnded game.lines × Ended (game.gap ++ rest)) ⊎ (Ended game.lines × (game.gap ++ rest ≡ [])) → (Ended rest → Ended next) → (Ended rest → Ended same) → Ended (cond b (dealt_lines old other results boards game.lines ++ (game.gap ++ next)) (game.lines ++ (game.gap ++ same)))
        go true (inl (all, more)) to_next to_same = ended_join (dealt_lines old other results boards game.lines) (game.gap ++ next) (dealt_all boards f.0 all) (rest_ended game.gap rest next more to_next (none_whole (behind boards) games))
        go false (inl (all, more)) to_next to_same = ended_join game.lines (game.gap ++ same) all (rest_ended game.gap rest same more to_same (none_whole boards games))
        go true (inr (some, none)) to_next to_same = nothing_behind (dealt_lines old other results boards game.lines) (game.gap ++ next) (none_behind (behind boards) none) (dealt_ended boards f.0 some)
        go false (inr (some, none)) to_next to_same = nothing_behind game.lines (game.gap ++ same) (none_behind boards none) some

-- A game, line by line as it is looked at.
use Rattle.std.proofs.Common.{◌≡◌, ◌≢◌, ℕ, ◌<◌, length, arith, Bool, true, false, ◌||◌, List, [], ◌∷◌, ◌++◌, Option, None, Some, refl, sym, ◌∙◌, ap, subst, append_assoc, append-nil, flat_map, inl, inr}
use Rattle.std.specs.Borrow.{Bor}
use Rattle.std.specs.List.{list_any, list_all}
use Rattle.std.specs.Option.{is_some}
use Rattle.std.proofs.lemmas.Grind.{flat_map-append}
use Rattle.pbn_deals.specs.Pieces.{Kind, LineIs, is_escaped_line, is_gap, is_of_game, is_in_comment, closes_comment, Row, rows_of, Line, line_bytes, AreLines, no_more, one_more}
use Rattle.pbn_deals.proofs.LinesOfText.{body_of-line}
use Rattle.whole_texts.specs.OldTables.{table_behind_line, without_tables, is_deal_kind, has_deal}
use Rattle.whole_texts.specs.WholeText.{is_gap_kind}
use Rattle.whole_texts.specs.FirstGame.{HasDealLine, IsDealEnd, EndsGame, IsFirstGame}
use Rattle.whole_texts.specs.LeftText.{tables_behind}
use Rattle.whole_texts.specs.LineFacts.{is_solid}
use Rattle.whole_texts.specs.declared.games.GameText.{GameText}
use Rattle.whole_texts.proofs.LineCuts.{cut_lines}
use Rattle.pbn_deals.proofs.RowsInTurn.{HasFirst, has_first}
use Rattle.whole_texts.proofs.SolidLines.{behind-append, is_minor, EndsSolid, left_parts, ends_solid, stays_minor}
use Rattle.tables.specs.declared.results.Renews.{Renews}

-- ---- the first line with a Deal tag
any-append : (p : Line → Bool) (one other : List Line) → list_any p (one ++ other) ≡ (list_any p one || list_any p other)
any-append p [] other = refl
any-append p (line ∷ one) other = ap (λ b. p line || b) (any-append p one other) ∙ or_assoc (p line) (list_any p one) (list_any p other) where
  or_assoc : (a b c : Bool) → (a || (b || c)) ≡ ((a || b) || c)
  or_assoc true b c = refl
  or_assoc false b c = refl

both_false : (a b : Bool) → a ≡ false → b ≡ false → (a || (b || false)) ≡ false
both_false true b e f = absurd (cc)
both_false false true e f = absurd (cc)
both_false false false e f = refl

pub none_more : (p : Line → Bool) (lines : List Line) (line : Line) → list_any p lines ≡ false → p line ≡ false → list_any p (lines ++ line ∷ []) ≡ false
none_more p lines line e f = any-append p lines (line ∷ []) ∙ both_false (list_any p lines) (p line) e f

pub first_deal : (lines : List Line) (kind : Kind) (end : List ℕ) → has_deal lines ≡ false → is_deal_kind kind ≡ true → HasDealLine (lines ++ record { kind = kind; end = end } ∷ []) end
first_deal lines kind end none d = record { before = lines; kind = kind; after = []; parts = refl; none_before = none; deal = d }

pub same_deal : (lines : List Line) (line : Line) (end : List ℕ) → HasDealLine lines end → HasDealLine (lines ++ line ∷ []) end
same_deal lines line end h = record {
  before = h.before;
  kind = h.kind;
  after = h.after ++ line ∷ [];
  parts = ap (λ l. l ++ line ∷ []) h.parts ∙ append_assoc h.before (record { kind = h.kind; end = end } ∷ h.after) (line ∷ []);
  none_before = h.none_before;
  deal = h.deal;
}

pub deal_found : (lines : List Line) (kind : Kind) (end : List ℕ) (before : Option (Bor (List ℕ))) → is_some before ≡ false → IsDealEnd before lines → is_deal_kind kind ≡ true → HasDealLine (lines ++ record { kind = kind; end = end } ∷ []) end
deal_found lines kind end None none deal d = first_deal lines kind end deal d
deal_found lines kind end (Some old) none deal d = absurd (cc)

pub deal_kept : (lines : List Line) (kind : Kind) (end : List ℕ) (before : Option (Bor (List ℕ))) → IsDealEnd before lines → (is_some before ≡ false → is_deal_kind kind ≡ false) → IsDealEnd before (lines ++ record { kind = kind; end = end } ∷ [])
deal_kept lines kind end None deal d = none_more (λ line. is_deal_kind line.kind) lines (record { kind = kind; end = end }) deal (d refl)
deal_kept lines kind end (Some old) deal d = same_deal lines (record { kind = kind; end = end }) old.now deal

-- ---- the lines so far
pub record Surveyed (renews : Renews) (text : List ℕ) (lines : List Line) (back rest : List ℕ) (is_open in_table : Bool) (deal_end : Option (Bor (List ℕ))) : Type 0 where
  pub front : List Line
  pub behind : List Line
  pub more : List Line
  pub all : lines ≡ (front ++ behind) ++ more
  pub front_bytes : text ≡ flat_map line_bytes front ++ back
  pub back_bytes : back ≡ flat_map line_bytes behind ++ rest
  pub has : AreLines is_open (rows_of rest) more false
  pub table : in_table ≡ tables_behind renews false (front ++ behind)
  pub no_gap : list_any (λ line. is_gap_kind line.kind) (front ++ behind) ≡ false
  pub deal : IsDealEnd deal_end (front ++ behind)
  pub solid : EndsSolid renews (without_tables renews false front)
  pub minor : list_all (is_minor renews) (without_tables renews (tables_behind renews false front) behind) ≡ true

pub survey_begins : (renews : Renews) (text : List ℕ) (lines : List Line) → AreLines false (rows_of text) lines false → Surveyed renews text lines text text false false None
survey_begins renews text lines h = record {
  front = [];
  behind = [];
  more = lines;
  all = refl;
  front_bytes = refl;
  back_bytes = refl;
  has = h;
  table = refl;
  no_gap = refl;
  deal = refl;
  solid = inl refl;
  minor = refl;
}

module _ (renews : Renews) {text back rest : List ℕ} (after : List ℕ) {lines : List Line} {is_open in_table : Bool} {deal_end : Option (Bor (List ℕ))} {row : Row}
    (s : Surveyed renews text lines back rest is_open in_table deal_end) (rows : rows_of rest ≡ row ∷ rows_of after) (bytes : rest ≡ (row.bytes ++ row.end) ++ after) where
  pub next_line : HasFirst is_open row (rows_of after) s.more false
  next_line = has_first (subst (λ r. AreLines is_open r s.more false) rows s.has)

  abbrev pub own_line : Line
  own_line = record { kind = next_line.kind; end = row.end }

  pub line_is : rest ≡ line_bytes own_line ++ after
  line_is = bytes ∙ ap (λ b. (b ++ row.end) ++ after) (sym (body_of-line next_line.is))

  abbrev pub own : List Line
  own = s.front ++ s.behind

  all_is : lines ≡ (own ++ own_line ∷ []) ++ next_line.others
  all_is = s.all ∙ (ap (λ m. own ++ m) next_line.all ∙ sym (append_assoc own (own_line ∷ []) next_line.others))

  -- the bytes of lines and of one more
  one_more_bytes : (some : List Line) → flat_map line_bytes some ++ rest ≡ flat_map line_bytes (some ++ own_line ∷ []) ++ after
  one_more_bytes some =
      ap (λ r. flat_map line_bytes some ++ r) line_is
      ∙ (sym (append_assoc (flat_map line_bytes some) (line_bytes own_line) after)
      ∙ ap (λ b. b ++ after) (ap (λ b. flat_map line_bytes some ++ b) (sym (append-nil (line_bytes own_line))) ∙ sym (flat_map-append line_bytes some (own_line ∷ []))))

  module _ (deal_end' : Option (Bor (List ℕ))) {is_open' in_table' : Bool} (no_gap : is_gap_kind next_line.kind ≡ false)
      (opened : is_open' ≡ next_line.behind) (table : in_table' ≡ table_behind_line renews in_table next_line.kind) (deal : IsDealEnd deal_end' (own ++ own_line ∷ [])) where
    has_rest : AreLines is_open' (rows_of after) next_line.others false
    has_rest = subst (λ o. AreLines o (rows_of after) next_line.others false) (sym opened) next_line.are

    table_rest : in_table' ≡ tables_behind renews false (own ++ own_line ∷ [])
    table_rest = table ∙ (ap (λ t. table_behind_line renews t next_line.kind) s.table ∙ sym (behind-append renews false own (own_line ∷ [])))

    no_gap_yet : list_any (λ line. is_gap_kind line.kind) (own ++ own_line ∷ []) ≡ false
    no_gap_yet = none_more (λ line. is_gap_kind line.kind) own own_line s.no_gap no_gap

    pub solid_line : is_solid renews in_table next_line.kind ≡ true → Surveyed renews text lines after after is_open' in_table' deal_end'
    solid_line solid =
        let same = append-nil (own ++ own_line ∷ []) in
        record {
          front = own ++ own_line ∷ [];
          behind = [];
          more = next_line.others;
          all = all_is ∙ ap (λ l. l ++ next_line.others) (sym same);
          front_bytes =
              s.front_bytes
              ∙ (ap (λ b. flat_map line_bytes s.front ++ b) s.back_bytes
              ∙ (sym (append_assoc (flat_map line_bytes s.front) (flat_map line_bytes s.behind) rest)
              ∙ (ap (λ b. b ++ rest) (sym (flat_map-append line_bytes s.front s.behind)) ∙ one_more_bytes own)));
          back_bytes = refl;
          has = has_rest;
          table = table_rest ∙ ap (tables_behind renews false) (sym same);
          no_gap = ap (list_any (λ line. is_gap_kind line.kind)) same ∙ no_gap_yet;
          deal = subst (IsDealEnd deal_end') (sym same) deal;
          solid = ends_solid renews own own_line in_table s.table solid;
          minor = refl;
        }

    pub minor_line : is_solid renews in_table next_line.kind ≡ false → Surveyed renews text lines back after is_open' in_table' deal_end'
    minor_line minor =
        let same = append_assoc s.front s.behind (own_line ∷ []) in
        record {
          front = s.front;
          behind = s.behind ++ own_line ∷ [];
          more = next_line.others;
          all = all_is ∙ ap (λ l. l ++ next_line.others) same;
          front_bytes = s.front_bytes;
          back_bytes = s.back_bytes ∙ one_more_bytes s.behind;
          has = has_rest;
          table = table_rest ∙ ap (tables_behind renews false) same;
          no_gap = ap (list_any (λ line. is_gap_kind line.kind)) (sym same) ∙ no_gap_yet;
          deal = subst (IsDealEnd deal_end') same deal;
          solid = s.solid;
          minor = stays_minor renews (tables_behind renews false s.front) s.behind own_line in_table (s.table ∙ behind-append renews false s.front s.behind) no_gap minor s.minor;
        }

-- ---- the whole game
gap_closed : {is_open last : Bool} {bytes : List ℕ} {kind : Kind} → LineIs is_open bytes kind last → is_gap_kind kind ≡ true → (is_open ≡ false) × (last ≡ false)
gap_closed (is_escaped_line e) g = absurd (cc)
gap_closed (is_gap e b) g = (refl, refl)
gap_closed (is_of_game e b h) g = absurd (cc)
gap_closed (is_in_comment l) g = absurd (cc)
gap_closed (closes_comment text e l h) g = absurd (cc)

line_closed : {is_open last : Bool} {rows : List Row} {line : Line} {lines : List Line} → AreLines is_open rows (line ∷ lines) last → is_gap_kind line.kind ≡ true → is_open ≡ false
line_closed (one_more l r) g = (gap_closed l g).0

no_lines_closed : {is_open last : Bool} {rows : List Row} → AreLines is_open rows [] last → is_open ≡ last
no_lines_closed no_more = refl

closed : {mid : Bool} {rows : List Row} (gap more : List Line) → EndsGame gap more → AreLines mid rows (gap ++ more) false → mid ≡ false
closed {mid} {rows} gap more (inl (line, is, g)) h = line_closed (subst (λ l. AreLines mid rows (l ++ more) false) is h) g
closed {mid} {rows} gap more (inr (n, m)) h =
    no_lines_closed (subst (λ l. AreLines mid rows l false) (ap (λ l. l ++ more) n ∙ m) h)

module _ (renews : Renews) {text back rest : List ℕ} {lines : List Line} {is_open in_table : Bool} (game : GameText)
    (h : AreLines false (rows_of text) lines false) (s : Surveyed renews text lines back rest is_open in_table game.deal_end) where
  module _ (gap more : List Line) (is : s.more ≡ gap ++ more) (ends : EndsGame gap more)
      (front : game.front.now ≡ flat_map line_bytes s.front) (behind : game.back.now ≡ flat_map line_bytes s.behind)
      (gap_bytes : game.gap.now ≡ flat_map line_bytes gap) (rest_is : rest ≡ game.gap.now ++ game.rest.now)
      (rest_lines : AreLines false (rows_of game.rest.now) more false) where
    pub game_is_first : IsFirstGame renews text lines game
    game_is_first =
        let own = s.front ++ s.behind in
        let all : lines ≡ own ++ (gap ++ more) = s.all ∙ ap (λ m. own ++ m) is in
        let one = cut_lines text own (gap ++ more) (subst (λ l. AreLines false (rows_of text) l false) all h) in
        let read = subst (λ o. AreLines false (rows_of (flat_map line_bytes own)) own o) (closed gap more ends one.second) one.first in
        let two = cut_lines (flat_map line_bytes own) s.front s.behind read in
        let own_bytes : game.front.now ++ game.back.now ≡ flat_map line_bytes own =
        ap (λ b. b ++ game.back.now) front ∙ (ap (λ b. flat_map line_bytes s.front ++ b) behind ∙ sym (flat_map-append line_bytes s.front s.behind)) in
        record {
          whole =
              s.front_bytes
              ∙ (ap (λ b. flat_map line_bytes s.front ++ b) s.back_bytes
              ∙ (ap (λ r. flat_map line_bytes s.front ++ (flat_map line_bytes s.behind ++ r)) rest_is
              ∙ (sym (append_assoc (flat_map line_bytes s.front) (flat_map line_bytes s.behind) (game.gap.now ++ game.rest.now))
              ∙ ap (λ b. b ++ (game.gap.now ++ game.rest.now)) (sym (flat_map-append line_bytes s.front s.behind) ∙ sym own_bytes))));
          own = own;
          gap = gap;
          more = more;
          all = all;
          no_gap = s.no_gap;
          ends = ends;
          has = record {
            front = s.front;
            back = s.behind;
            parts = refl;
            read = subst (λ t. AreLines false (rows_of t) own false) (sym own_bytes) read;
            is_open = two.mid;
            front_lines = subst (λ t. AreLines false (rows_of t) s.front two.mid) (sym front) two.first;
            back_lines = subst (λ t. AreLines two.mid (rows_of t) s.behind false) (sym behind) two.second;
            left = left_parts renews s.front s.behind s.solid s.minor;
            deal = s.deal;
          };
          gap_bytes = gap_bytes;
          rest_lines = rest_lines;
        }

  -- at the end of the text
  pub ends_with_text : rest ≡ [] → game.front.now ≡ flat_map line_bytes s.front → game.back.now ≡ back → game.gap.now ≡ [] → game.rest.now ≡ [] → IsFirstGame renews text lines game
  ends_with_text none front behind no_gap no_rest =
      let no_more = no_lines (subst (λ t. AreLines is_open (rows_of t) s.more false) none s.has) in
      game_is_first [] [] no_more (inr (refl, refl)) front
      (behind ∙ (s.back_bytes ∙ (ap (λ r. flat_map line_bytes s.behind ++ r) none ∙ append-nil (flat_map line_bytes s.behind))))
      no_gap (none ∙ sym (ap (λ g. g ++ game.rest.now) no_gap ∙ no_rest)) (subst (λ t. AreLines false (rows_of t) [] false) (sym no_rest) no_more_lines)
    where
      no_lines : {o last : Bool} {some : List Line} → AreLines o [] some last → some ≡ []
      no_lines no_more = refl

      no_more_lines : AreLines false (rows_of []) [] false
      no_more_lines = no_more

  -- at a line of blanks
  module _ {row : Row} {after : List ℕ} (rows : rows_of rest ≡ row ∷ rows_of after) (bytes : rest ≡ (row.bytes ++ row.end) ++ after) where
    pub ends_at_gap : is_gap_kind (next_line renews after s rows bytes).kind ≡ true → game.front.now ≡ flat_map line_bytes s.front → game.back.now ≡ flat_map line_bytes s.behind → game.gap.now ≡ line_bytes (own_line renews after s rows bytes) → game.rest.now ≡ after → IsFirstGame renews text lines game
    ends_at_gap g front behind gap rest_is =
        let line = next_line renews after s rows bytes in
        let own = own_line renews after s rows bytes in
        game_is_first (own ∷ []) line.others line.all (inl (own, refl, g)) front behind (gap ∙ sym (append-nil (line_bytes own)))
        (line_is renews after s rows bytes ∙ sym (ap (λ b. b ++ game.rest.now) gap ∙ ap (λ r. line_bytes own ++ r) rest_is))
        (subst (λ t. AreLines false (rows_of t) line.others false) (sym rest_is) (subst (λ o. AreLines o (rows_of after) line.others false) (gap_closed line.is g).1 line.are))

pub some_text : (text : List ℕ) → text ≢ [] → 0 < length text
some_text [] some = absurd (some refl)
some_text (byte ∷ bytes) some = omega arith

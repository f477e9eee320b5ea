-- What is written shows the results of each board once.
use Rattle.std.proofs.Common.{◌≡◌, ℕ, ◌+◌, Bool, true, false, cond, ◌||◌, List, [], ◌∷◌, ◌++◌, Option, Some, None, is_some, Ok, refl, sym, ◌∙◌, ap, subst, arith, append-nil, flat_map, inl, inr}
use Rattle.std.specs.Prelude.{codes, unwrap_or, map, IfSome}
use Rattle.std.proofs.lemmas.List.{map-append}
use Rattle.par.specs.Texts.{score_text, contracts_text}
use Rattle.tables.specs.declared.pars.BoardPar.{BoardPar}
use Rattle.tables.specs.declared.pars.BoardPar.TheVariants.{Known, NoDealer, NoVulnerability}
use Rattle.tables.specs.ParText.{tag_text, IsSmallPar, par_bodies}
use Rattle.text_laws.specs.ReadBack.{AreTricks}
use Rattle.text_laws.specs.PageReading.{Table, table_in, Nothing, section_of, section_in}
use Rattle.text_laws.specs.WrittenOnce.{SaysResults, par_said}
use Rattle.std.specs.List.{list_any, enumerate_from}
use Rattle.std.proofs.lemmas.Bool.{cases_Bool}
use Rattle.cards.specs.declared.seats.Seat.{Seat}
use Rattle.cards.specs.declared.suits.Trump.{Trump}
use Rattle.cards.specs.Deal.{Deal}
use Rattle.pbn_deals.specs.declared.boards.Board.{Board}
use Rattle.pbn_deals.specs.Tags.{is_board, is_deal}
use Rattle.pbn_deals.specs.Games.{Tags, boards_of, board_of, TakesTag, board_tag, deal_tag, other_tag, TakesBoard, first_board, later_board, TakesDeal, only_deal}
use Rattle.pbn_deals.specs.Pieces.{Piece, Space, Comment, Pair, Data, NoPair, Gap, OfGame, body_of, Line, HasLines}
use Rattle.pbn_deals.specs.LineBoards.{AddsPieces, adds_nothing, adds_pair, adds_silent}
use Rattle.tables.specs.TablesText.{Results, Printed, entries, row_text, is_complete, published_count, table_tag, incomplete_text}
use Rattle.text_laws.proofs.PageLines as page
use Rattle.text_laws.proofs.PageLines.{AreSmall}
use Rattle.text_laws.proofs.PageBack.{complete_read, incomplete_read, table_tag-begins, incomplete-begins, reads_below}
use Rattle.whole_texts.specs.OldTables.{left_of, without_tables, without_counts, is_deal_pair, has_deal}
use Rattle.whole_texts.specs.WholeText.{Game, games_of, row_lines, entry_lines, table_pair, table_lines, with_end, par_kinds, section_lines, first_end, behind}
use Rattle.text_laws.specs.GivenEnds.{deal_end, with_ends, with_section, dealt_lines, whole_lines}
use Rattle.text_laws.specs.Laws.{bodies, ShowsOnce, Where, ShowsBoard, ShowGames, ShowEachOnce}
use Rattle.text_laws.proofs.DealTags.{same_length}
use Rattle.text_laws.proofs.SameBoards.{AddsLines, adds_none, adds_escaped, adds_line, GamesHave, last_game, next_game, games_have}
use Rattle.text_laws.proofs.CleanLines.{left_of_clean, ends_clean, clean_stays, counts_twice, counts_ends, left_twice}
use Rattle.text_laws.proofs.AgainSame.{dealt_deal, games_written, written_lines, written_have, games_back}
use Rattle.whole_texts.proofs.SectionText.{as_data-bytes}
use Rattle.text_laws.proofs.WrittenLines.{have_boards, out_lines, given_text}
use Rattle.tables.specs.declared.results.Renews.{Renews}

-- ---- the lines of a section
rows-bodies : (end : List ℕ) (results : Results) (some : List (Seat × Trump)) → bodies (flat_map (entry_lines end results) some) ≡ flat_map (page.entry_lines results) some
rows-bodies end results [] = refl
rows-bodies end results (entry ∷ some) = go (results entry.0 entry.1) (rows-bodies end results some) where
  go : (result : Option ℕ) → bodies (flat_map (entry_lines end results) some) ≡ flat_map (page.entry_lines results) some → bodies (row_lines end entry.0 entry.1 result ++ flat_map (entry_lines end results) some) ≡ page.result_lines entry.0 entry.1 result ++ flat_map (page.entry_lines results) some
  go None more = more
  go (Some tricks) more = ap (λ b. b ∷ bodies (flat_map (entry_lines end results) some)) (as_data-bytes (row_text entry.0 entry.1 tricks)) ∙ ap (λ r. row_text entry.0 entry.1 tricks ∷ r) more

-- how the lines of a table are read
record ShownTable (results : Results) (lines : List Line) : Type 0 where
  line : List ℕ
  below : List (List ℕ)
  table : Table
  are : bodies lines ≡ line ∷ below
  begins : section_in (line ∷ below) ≡ section_of Nothing (table_in line below)
  read : table_in line below ≡ Some table
  says : SaysResults results table

shown_table : (end : List ℕ) (results : Results) → AreSmall results → ShownTable results (table_lines end results)
shown_table end results small = go (is_complete results) refl where
  rows : List Line
  rows = record { kind = OfGame (table_pair ∷ []); end = end } ∷ flat_map (entry_lines end results) entries

  count : List Line
  count = record { kind = OfGame (Comment (incomplete_text (published_count results)) ∷ []); end = end } ∷ []

  go : (b : Bool) → is_complete results ≡ b → ShownTable results (cond b rows count)
  go true e =
      let it = complete_read results small e in
      record {
        line = table_tag;
        below = flat_map (page.entry_lines results) entries;
        table = it.0;
        are = ap (λ b. b ∷ bodies (flat_map (entry_lines end results) entries)) (append-nil table_tag) ∙ ap (λ r. table_tag ∷ r) (rows-bodies end results entries);
        begins = table_tag-begins (flat_map (page.entry_lines results) entries);
        read = it.1;
        says = it.2;
      }
  go false e =
      let it = incomplete_read results e in
      record {
        line = incomplete_text (published_count results);
        below = [];
        table = it.0;
        are = ap (λ b. b ∷ []) (append-nil (incomplete_text (published_count results)));
        begins = incomplete-begins (published_count results) [];
        read = it.1;
        says = it.2;
      }

-- the lines of a par
par-lines : (end : List ℕ) (par : Option BoardPar) → bodies (map (with_end end) (par_kinds par)) ≡ par_bodies par
par-lines end None = refl
par-lines end (Some (Known dealer vulnerable score contracts)) =
    let one = tag_text (codes "OptimumScore") (score_text score) in
    let two = tag_text (codes "ParContract") (contracts_text contracts.items) in
    ap (λ (l : List ℕ). l ∷ (two ++ []) ∷ []) (append-nil one) ∙ ap (λ (l : List ℕ). one ∷ l ∷ []) (append-nil two)
par-lines end (Some NoDealer) = ap (λ (l : List ℕ). l ∷ []) (append-nil (codes "; par unknown: no dealer"))
par-lines end (Some NoVulnerability) = ap (λ (l : List ℕ). l ∷ []) (append-nil (codes "; par unknown: no vulnerability"))

-- what stands before a section has nothing that goes
shows_section : (old : Renews) (end : List ℕ) (printed : Printed) (before : List Line) → AreSmall printed.results → IfSome printed.par IsSmallPar → left_of old before ≡ before → ShowsOnce old printed (before ++ section_lines end printed)
shows_section old end printed before small pars none =
    let t = shown_table end printed.results small in
    let pars_at = map (with_end end) (par_kinds printed.par) in
    let table_at = table_lines end printed.results in
    let lines : bodies (section_lines end printed) ≡ par_bodies printed.par ++ t.line ∷ t.below =
    map-append (λ (line : Line). body_of line.kind) pars_at table_at
    ∙ (ap (λ (l : List (List ℕ)). l ++ bodies table_at) (par-lines end printed.par)
    ∙ ap (λ (l : List (List ℕ)). par_bodies printed.par ++ l) t.are) in
    record {
      before = before;
      shown = section_lines end printed;
      parts = refl;
      none_before = none;
      section = record { par = par_said printed.par; table = t.table };
      read = ap section_in lines ∙ reads_below printed.par t.line t.below t.table pars t.begins t.read;
      says = record { par = refl; table = t.says };
    }

shows_board : (old : Renews) (other : List ℕ) (results : ℕ → Printed) (numbered : ℕ × Board) (more : List (ℕ × Board)) (lines : List Line) → AreSmall (results numbered.0).results → IfSome (results numbered.0).par IsSmallPar → ShowsBoard old results numbered (dealt_lines old other results (numbered ∷ more) lines)
shows_board old other results numbered more lines small pars = go (is_some numbered.1.deal) where
  left : List Line
  left = left_of old lines

  end : List ℕ
  end = deal_end other left

  kept : List Line
  kept = with_ends end left

  stays : left_of old kept ≡ kept
  stays =
      ap (λ l. left_of old l) (sym (append-nil kept))
      ∙ (ap (without_counts old) (clean_stays old kept [] (ends_clean old end left (left_of_clean old lines)) ∙ append-nil kept)
      ∙ counts_ends old end left (counts_twice old (without_tables old false lines)))

  go : (b : Bool) → Where b (ShowsOnce old (results numbered.0) (cond b (with_section other (results numbered.0) left) left)) (left_of old (cond b (with_section other (results numbered.0) left) left) ≡ cond b (with_section other (results numbered.0) left) left)
  go true = shows_section old end (results numbered.0) kept small pars stays
  go false = left_twice old lines

-- ---- which games have a Deal tag
no_both : (name : List ℕ) → is_board name ≡ true → is_deal name ≡ false
no_both name b = elim (cases_Bool (is_deal name)) [
  | inl d ↦ let one = same_length (codes "BOARD") name b in let other = same_length (codes "DEAL") name d in absurd (omega (arith, one, other))
  | inr f ↦ f
]

board_keeps : {number : ℕ} {tags tags' : Tags} {value : List ℕ} → TakesBoard number tags value (Ok tags') → is_some tags'.deal ≡ is_some tags.deal
board_keeps (first_board e n) = refl
board_keeps (later_board e n) = refl

deal_gives : {number count : ℕ} {tags tags' : Tags} {value : List ℕ} → TakesDeal number count tags value (Ok tags') → is_some tags'.deal ≡ true
deal_gives (only_deal e s f) = refl

or_false : (a : Bool) → a ≡ (a || false)
or_false true = refl
or_false false = refl

or_true : (a b : Bool) → b ≡ true → true ≡ (a || b)
or_true true b e = refl
or_true false b e = sym e

tag_deal : {number count : ℕ} {tags tags' : Tags} {name value : List ℕ} → TakesTag number count tags name value (Ok tags') → is_some tags'.deal ≡ (is_some tags.deal || is_deal name)
tag_deal {tags = tags} {name = name} (board_tag b t) = board_keeps t ∙ (or_false (is_some tags.deal) ∙ ap (λ d. is_some tags.deal || d) (sym (no_both name b)))
tag_deal {tags = tags} {name = name} (deal_tag b d t) = deal_gives t ∙ or_true (is_some tags.deal) (is_deal name) d
tag_deal {tags = tags} (other_tag b d) = or_false (is_some tags.deal) ∙ ap (λ x. is_some tags.deal || x) (sym d)

or_assoc : (a b c : Bool) → ((a || b) || c) ≡ (a || (b || c))
or_assoc true b c = refl
or_assoc false b c = refl

pieces_deal : {count : ℕ} {tags last : Tags} (pieces : List Piece) → AddsPieces count tags pieces last → is_some last.deal ≡ (is_some tags.deal || list_any is_deal_pair pieces)
pieces_deal {tags = tags} [] adds_nothing = or_false (is_some tags.deal)
pieces_deal {tags = tags} (Pair name value bytes ∷ pieces) (adds_pair t a) =
    pieces_deal pieces a ∙ (ap (λ d. d || list_any is_deal_pair pieces) (tag_deal (t 0)) ∙ or_assoc (is_some tags.deal) (is_deal name) (list_any is_deal_pair pieces))
pieces_deal (Pair name value bytes ∷ pieces) (adds_silent s a) = absurd (cc)
pieces_deal (Space byte ∷ pieces) (adds_silent s a) = pieces_deal pieces a
pieces_deal (Comment bytes ∷ pieces) (adds_silent s a) = pieces_deal pieces a
pieces_deal (Data bytes ∷ pieces) (adds_silent s a) = pieces_deal pieces a
pieces_deal (NoPair bytes ∷ pieces) (adds_silent s a) = absurd (cc)

lines_deal : (old : Renews) {count : ℕ} {tags last : Tags} {lines : List Line} → AddsLines old count tags lines last → is_some last.deal ≡ (is_some tags.deal || has_deal lines)
lines_deal old (adds_none {tags}) = or_false (is_some tags.deal)
lines_deal old (adds_escaped r) = lines_deal old r
lines_deal old {tags = tags} (adds_line {pieces = pieces} {lines = lines} a r) =
    lines_deal old r ∙ (ap (λ d. d || has_deal lines) (pieces_deal pieces a) ∙ or_assoc (is_some tags.deal) (list_any is_deal_pair pieces) (has_deal lines))

-- ---- the games
module _ (old : Renews) (other : List ℕ) (results : ℕ → Printed) (small : AreTricks results) where
  -- a game, by what its tags say, and the games behind it
  show_game : (place : ℕ) (name : Option (List ℕ)) (deal : Option (Option Deal)) (game : Game) (games : List Game) (boards : List Board) → is_some deal ≡ has_deal game.lines → ((place' : ℕ) → ShowGames old results (enumerate_from place' boards) (games_written old other results (enumerate_from place' boards) games)) → ShowGames old results (enumerate_from place (board_of name deal ++ boards)) (games_written old other results (enumerate_from place (board_of name deal ++ boards)) (game ∷ games))
  show_game place name None game games boards e more = skip (enumerate_from place boards) (has_deal game.lines) (sym e) (more place) where
    skip : (numbered : List (ℕ × Board)) (b : Bool) → b ≡ false → ShowGames old results numbered (games_written old other results numbered games) → ShowGames old results numbered (record { lines = cond b (dealt_lines old other results numbered game.lines) game.lines; gap = game.gap } ∷ games_written old other results (cond b (behind numbered) numbered) games)
    skip numbered true f more = absurd (cc)
    skip [] false f more = (sym e, more)
    skip (one ∷ rest) false f more = subst (λ d. Where d (ShowsBoard old results one game.lines × ShowGames old results rest (games_written old other results (one ∷ rest) games)) (ShowGames old results (one ∷ rest) (games_written old other results (one ∷ rest) games))) e more
  show_game place name (Some deal) game games boards e more = show (has_deal game.lines) (sym e) (more (place + 1)) where
    board : Board
    board = record { name = unwrap_or name []; deal = deal }

    rest : List (ℕ × Board)
    rest = enumerate_from (place + 1) boards

    dealt : List Line
    dealt = dealt_lines old other results ((place, board) ∷ rest) game.lines

    show : (b : Bool) → b ≡ true → ShowGames old results rest (games_written old other results rest games) → ShowGames old results ((place, board) ∷ rest) (record { lines = cond b dealt game.lines; gap = game.gap } ∷ games_written old other results (cond b rest ((place, board) ∷ rest)) games)
    show true f more =
        subst (λ d. Where d (ShowsBoard old results (place, board) dealt × ShowGames old results rest (games_written old other results rest games)) (ShowGames old results ((place, board) ∷ rest) (games_written old other results rest games)))
        (sym (dealt_deal old other results ((place, board) ∷ rest) game.lines (sym e))) (shows_board old other results (place, board) rest game.lines (small.at_most place) (small.pars place), more)
    show false f more = absurd (cc)

  show_games : {count : ℕ} {tags : Tags} {games : List Game} {boards : List Board} → GamesHave old count tags games boards → tags.deal ≡ None → (place : ℕ) → ShowGames old results (enumerate_from place boards) (games_written old other results (enumerate_from place boards) games)
  show_games {tags = tags} (last_game {tags' = tags'} {lines} a) n place =
      let deal : is_some tags'.deal ≡ has_deal lines = lines_deal old a ∙ ap (λ (d : Option (Option Deal)). is_some d || has_deal lines) n in
      subst (λ bs. ShowGames old results (enumerate_from place bs) (games_written old other results (enumerate_from place bs) (record { lines = lines; gap = [] } ∷ []))) (append-nil (boards_of tags'))
      (show_game place tags'.name tags'.deal (record { lines = lines; gap = [] }) [] [] deal (λ place'. tt))
  show_games {tags = tags} (next_game {tags' = tags'} {lines} {bytes} {end} {games} {boards} a g) n place =
      let deal : is_some tags'.deal ≡ has_deal lines = lines_deal old a ∙ ap (λ (d : Option (Option Deal)). is_some d || has_deal lines) n in
      show_game place tags'.name tags'.deal (record { lines = lines; gap = record { kind = Gap bytes; end = end } ∷ [] }) games boards deal (show_games g refl)

pub show_each_once : ShowEachOnce
show_each_once old text boards results written answer small whole =
    let lines = whole.lines in
    let numbered = enumerate_from 0 boards in
    let out = whole_lines old boards results lines in
    let have = games_have old (have_boards text boards lines answer whole.read) in
    let gs = games_written old (first_end lines) results numbered (games_of lines) in
    let back : games_of out ≡ gs = ap games_of (sym (written_lines old (first_end lines) results numbered (games_of lines))) ∙ games_back old (written_have old (first_end lines) results numbered have) in (
      out,
      subst (λ t. HasLines t out) (sym (given_text old text boards results written whole)) (out_lines old text boards results lines answer small whole.read),
      subst (λ g. ShowGames old results numbered g) (sym back) (show_games old (first_end lines) results small have refl 0),
    )

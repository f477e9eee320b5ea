-- The first game of a text.
use Rattle.std.specs.Prelude.{◌≡◌, ℕ, Bool, true, false, List, [], ◌∷◌, ◌++◌, Option, MatchOption, ◌⊎◌}
use Rattle.std.specs.List.{flat_map, list_any}
use Rattle.std.specs.Borrow.{Bor}
use Rattle.pbn_deals.specs.Pieces.{Kind, Line, line_bytes, rows_of, AreLines}
use Rattle.whole_texts.specs.OldTables.{without_tables, left_of, is_deal_kind, has_deal}
use Rattle.whole_texts.specs.WholeText.{is_gap_kind}
use Rattle.whole_texts.specs.LeftText.{without_any_count, tables_behind}
use Rattle.whole_texts.specs.declared.games.GameText.{GameText}
use Rattle.tables.specs.declared.results.Renews.{Renews}

-- the first line with a Deal tag has this end
pub record HasDealLine (lines : List Line) (end : List ℕ) : Type 0 where
  pub before : List Line
  pub kind : Kind
  pub after : List Line
  pub parts : lines ≡ before ++ record { kind = kind; end = end } ∷ after
  pub none_before : has_deal before ≡ false
  pub deal : is_deal_kind kind ≡ true

abbrev pub IsDealEnd : Option (Bor (List ℕ)) → List Line → Type 0
IsDealEnd deal_end lines = MatchOption deal_end (has_deal lines ≡ false) (λ end. HasDealLine lines end.now)

-- a line that ends a game, or the end of the text
abbrev pub EndsGame : List Line → List Line → Type 0
EndsGame gap more = ((line : Line) × (gap ≡ line ∷ []) × (is_gap_kind line.kind ≡ true)) ⊎ ((gap ≡ []) × (more ≡ []))

-- the lines of a game, and what is left of them
pub record HasGameLines (old : Renews) (lines : List Line) (game : GameText) : Type 0 where
  pub front : List Line
  pub back : List Line
  pub parts : lines ≡ front ++ back
  pub read : AreLines false (rows_of (game.front.now ++ game.back.now)) lines false
  pub is_open : Bool
  pub front_lines : AreLines false (rows_of game.front.now) front is_open
  pub back_lines : AreLines is_open (rows_of game.back.now) back false
  pub left :
      left_of old lines
      ≡ without_tables old false front
      ++ without_any_count old (without_tables old (tables_behind old false front) back)
  pub deal : IsDealEnd game.deal_end lines

-- the first of the games of these lines, and the lines behind it
pub record IsFirstGame (old : Renews) (text : List ℕ) (lines : List Line) (game : GameText) : Type 0 where
  pub whole : text ≡ (game.front.now ++ game.back.now) ++ (game.gap.now ++ game.rest.now)
  pub own : List Line
  pub gap : List Line
  pub more : List Line
  pub all : lines ≡ own ++ (gap ++ more)
  pub no_gap : list_any (λ line. is_gap_kind line.kind) own ≡ false
  pub ends : EndsGame gap more
  pub has : HasGameLines old own game
  pub gap_bytes : game.gap.now ≡ flat_map line_bytes gap
  pub rest_lines : AreLines false (rows_of game.rest.now) more false

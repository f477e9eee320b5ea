-- All lines of a text, as if its games were one.
use Rattle.std.proofs.Common.{◌≡◌, ℕ, Bool, true, false, List, [], ◌∷◌, ◌++◌, None, Some, refl, sym, ◌∙◌, ap, subst, append_assoc, append-nil}
use Rattle.std.specs.Borrow.{Bor}
use Rattle.pbn_deals.specs.Pieces.{Kind, Gap, Escaped, OfGame, LineIs, is_escaped_line, is_gap, is_of_game, is_in_comment, closes_comment, Row, rows_of, Line, AreLines}
use Rattle.pbn_deals.proofs.RowsInTurn.{HasFirst, has_first, no_rows}
use Rattle.board_conditions.specs.declared.game_texts.GameText.{GameText}
use Rattle.board_conditions.specs.Games.{Game, is_gap_kind, pieces_of, game_pieces}
use Rattle.board_conditions.specs.Values.{AreValues, EndsOrAdds}
use Rattle.board_conditions.proofs.GamesTaken.{At, moved, gap_closed, pieces_more}

-- the lines that were read, and those of the rest of the text
pub record AllSoFar (lines : List Line) (last : Bool) (game : GameText) : Type 0 where
  pub own : Game
  pub others : List Line
  pub all : lines ≡ own ++ others
  pub are : AreValues (game_pieces own) game.is_open game
  pub has : AreLines game.is_open (rows_of game.rest.now) others last

-- a line of blanks stands in no comment
gap_in_text : {is_open last : Bool} {bytes : List ℕ} {kind : Kind} → LineIs is_open bytes kind last → is_gap_kind kind ≡ true → is_open ≡ false
gap_in_text (is_escaped_line e) g = refl
gap_in_text (is_gap e b) g = refl
gap_in_text (is_of_game e b h) g = refl
gap_in_text (is_in_comment l) g = absurd (cc)
gap_in_text (closes_comment text e l h) g = absurd (cc)

no_pieces : (kind : Kind) → is_gap_kind kind ≡ true → pieces_of kind ≡ []
no_pieces (Gap bytes) g = refl
no_pieces (Escaped bytes) g = refl
no_pieces (OfGame pieces) g = absurd (cc)

module _ {lines : List Line} {last : Bool} {game : GameText} {row : Row} (after : Bor (List ℕ)) (s : AllSoFar lines last game) (rows : rows_of game.rest.now ≡ row ∷ rows_of after.now) where
  pub its_line : HasFirst game.is_open row (rows_of after.now) s.others last
  its_line = has_first (subst (λ r. AreLines game.is_open r s.others last) rows s.has)

  abbrev line : Line
  line = record { kind = its_line.kind; end = row.end }

  with_own : s.own ++ (line ∷ its_line.others) ≡ (s.own ++ line ∷ []) ++ its_line.others
  with_own = sym (append_assoc s.own (line ∷ []) its_line.others)

  added : (next : GameText) → AreValues (game_pieces s.own ++ pieces_of its_line.kind) its_line.behind next → AllSoFar lines last (At next after)
  added next are = record {
    own = s.own ++ line ∷ [];
    others = its_line.others;
    all = s.all ∙ (ap (λ l. s.own ++ l) its_line.all ∙ with_own);
    are =
        moved next after
        (subst (λ l. AreValues l next.is_open next) (pieces_more s.own line)
        (subst (λ o. AreValues (game_pieces s.own ++ pieces_of its_line.kind) o next) (sym are.opened) are));
    has = subst (λ o. AreLines o (rows_of after.now) its_line.others last) (sym are.opened) its_line.are;
  }

  -- one line more, which adds its values
  pub one_more : (next : GameText) → EndsOrAdds (game_pieces s.own) its_line.kind its_line.behind (Some next) → AllSoFar lines last (At next after)
  one_more next h = added next h.1

  -- or which is a gap
  pub one_gap : EndsOrAdds (game_pieces s.own) its_line.kind its_line.behind None → AllSoFar lines last (At game after)
  one_gap gap =
      let closed = gap_in_text its_line.is gap in
      let behind = gap_closed its_line.is gap in
      added game
      (subst (λ l. AreValues l its_line.behind game) (sym (ap (λ p. game_pieces s.own ++ p) (no_pieces its_line.kind gap) ∙ append-nil (game_pieces s.own)))
      (subst (λ o. AreValues (game_pieces s.own) o game) (closed ∙ sym behind) s.are))

pub all_read : {lines : List Line} {last : Bool} {game : GameText} (s : AllSoFar lines last game) → game.rest.now ≡ [] → lines ≡ s.own
all_read {lines} {last} {game} s none =
    let no_others = (no_rows (subst (λ t. AreLines game.is_open (rows_of t) s.others last) none s.has)).0 in
    s.all ∙ (ap (λ l. s.own ++ l) no_others ∙ append-nil s.own)

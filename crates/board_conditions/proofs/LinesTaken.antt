-- The values of a game with one line more.
use Rattle.std.proofs.Common.{◌≡◌, ℕ, Bool, false, List, [], ◌∷◌, ◌++◌, refl, sym, ◌∙◌, ap, subst, append_assoc, inl, inr, ◌⊎◌}
use Rattle.pbn_deals.specs.declared.line_starts.LineStart.{LineStart}
use Rattle.pbn_deals.specs.declared.line_starts.LineStart.TheVariants as start
use Rattle.pbn_deals.specs.FirstPieces.{comment_before, IsOfGame, Starts}
use Rattle.pbn_deals.specs.Pieces.{Piece, Comment, HasPieces, Kind}
use Rattle.board_conditions.specs.Games.{is_gap_kind, pieces_of}
use Rattle.board_conditions.specs.Values.{AreValues}
use Rattle.board_conditions.specs.declared.game_texts.GameText.{GameText}
use Rattle.board_conditions.proofs.Named.{AddNothing, With, stays}

-- lines that add no value
same_after : (pieces more : List Piece) (last : Bool) (game : GameText) → AddNothing more → game.is_open ≡ last → AreValues pieces game.is_open game → AreValues (pieces ++ more) last game
same_after pieces more last game none opened h =
    let s = stays pieces more game.is_open last game none h in
    record { board = s.board; deal = s.deal; dealer = s.dealer; vulnerable = s.vulnerable; event = s.event; section = s.section; site = s.site; date = s.date; opened = opened }

pub passed : (pieces : List Piece) (line : List ℕ) (kind : Kind) (last : Bool) (game : GameText) (begin : LineStart) → (begin ≡ start.Escaped) ⊎ (begin ≡ start.InComment) → Starts game.is_open line kind last begin → AreValues pieces game.is_open game → (is_gap_kind kind ≡ false) × AreValues (pieces ++ pieces_of kind) last game
passed pieces line kind last game begin (inl is) starts h =
    let (was, kind_is, then) = subst (Starts game.is_open line kind last) is starts in (
      ap is_gap_kind kind_is,
      subst (λ k. AreValues (pieces ++ pieces_of k) last game) (sym kind_is) (same_after pieces [] last game (λ capitals. refl) (was ∙ sym then) h),
    )
passed pieces line kind last game begin (inr is) starts h =
    let (was, kind_is, then) = subst (Starts game.is_open line kind last) is starts in (
      ap is_gap_kind kind_is,
      subst (λ k. AreValues (pieces ++ pieces_of k) last game) (sym kind_is) (same_after pieces (Comment line ∷ []) last game (λ capitals. refl) (was ∙ sym then) h),
    )

comment_adds_nothing : (comment : List ℕ) → AddNothing (comment_before comment)
comment_adds_nothing [] capitals = refl
comment_adds_nothing (byte ∷ bytes) capitals = refl

pub taken : (pieces : List Piece) (line comment rest : List ℕ) (kind : Kind) (last : Bool) (game game' : GameText) → IsOfGame game.is_open line comment rest kind last → AreValues pieces game.is_open game → ((before more : List Piece) (is_open : Bool) → AreValues before false (With game false) → HasPieces false rest more is_open → AreValues (before ++ more) is_open game') → (is_gap_kind kind ≡ false) × AreValues (pieces ++ pieces_of kind) last game'
taken pieces line comment rest kind last game game' of h made =
    let before = stays pieces (comment_before comment) game.is_open false game (comment_adds_nothing comment) h in (
      ap is_gap_kind of.are,
      subst (λ k. AreValues (pieces ++ pieces_of k) last game') (sym of.are)
          (subst (λ l. AreValues l last game') (append_assoc pieces (comment_before comment) of.pieces)
          (made (pieces ++ comment_before comment) of.pieces last before of.has)),
    )

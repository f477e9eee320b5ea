-- A game with one line more.
use Rattle.std.proofs.Common.{◌≡◌, ℕ, eqb, Bool, true, false, List, [], ◌∷◌, ◌++◌, length, refl, sym, ◌∙◌, ap, subst, append_assoc, arith}
use Rattle.std.proofs.lemmas.Bool.{eqb-true}
use Rattle.pbn_deals.specs.declared.line_starts.LineStart.{LineStart}
use Rattle.pbn_deals.specs.declared.line_starts.LineStart.TheVariants as start
use Rattle.pbn_deals.specs.FirstPieces.{comment_before, IsOfGame, Starts}
use Rattle.pbn_deals.specs.Pieces.{Piece, Space, Comment, HasPieces, Kind}
use Rattle.board_conditions.specs.Games.{is_gap_kind, pieces_of}
use Rattle.recorded_plays.specs.declared.game_texts.GameText.{GameText}
use Rattle.recorded_plays.specs.Values.{AreValues}

-- what is taken of a line
abbrev pub LineMore : List Piece → Kind → Bool → GameText → Type 0
LineMore pieces kind last game = (is_gap_kind kind ≡ false) × AreValues (pieces ++ (Space 32 ∷ pieces_of kind)) last game

module _ (pieces : List Piece) (line : List ℕ) (kind : Kind) (last is_open : Bool) (begin : LineStart) (starts : Starts is_open line kind last begin) where
  -- a line that ends the game
  pub gap : begin ≡ start.Gap → (game : GameText) → AreValues pieces is_open game → (is_gap_kind kind ≡ true) × AreValues pieces false game
  gap is game h =
      let (was, kind_is, then) = subst (Starts is_open line kind last) is starts in
      (ap is_gap_kind kind_is, subst (λ o. AreValues pieces o game) was h)

  pub escaped : begin ≡ start.Escaped → (game : GameText) → AreValues (pieces ++ Space 32 ∷ []) false game → LineMore pieces kind last game
  escaped is game h =
      let (was, kind_is, then) = subst (Starts is_open line kind last) is starts in (
        ap is_gap_kind kind_is,
        subst (λ k. AreValues (pieces ++ (Space 32 ∷ pieces_of k)) last game) (sym kind_is)
            (subst (λ o. AreValues (pieces ++ Space 32 ∷ []) o game) (sym then) h),
      )

  pub in_comment : begin ≡ start.InComment → (game : GameText) → AreValues ((pieces ++ Space 32 ∷ []) ++ Comment line ∷ []) true game → LineMore pieces kind last game
  in_comment is game h =
      let (was, kind_is, then) = subst (Starts is_open line kind last) is starts in (
        ap is_gap_kind kind_is,
        subst (λ k. AreValues (pieces ++ (Space 32 ∷ pieces_of k)) last game) (sym kind_is)
            (subst (λ o. AreValues (pieces ++ (Space 32 ∷ Comment line ∷ [])) o game) (sym then)
            (subst (λ l. AreValues l true game) (append_assoc pieces (Space 32 ∷ []) (Comment line ∷ [])) h)),
      )

-- the comment before a line of a game
pub no_comment : (comment : List ℕ) → eqb (length comment) 0 ≡ true → comment_before comment ≡ []
no_comment [] e = refl
no_comment (byte ∷ bytes) e = absurd (omega (arith, eqb-true (length (byte ∷ bytes)) 0 e))

pub some_comment : (comment : List ℕ) → eqb (length comment) 0 ≡ false → comment_before comment ≡ Comment comment ∷ []
some_comment [] e = absurd (cc)
some_comment (byte ∷ bytes) e = refl

pub of_game : (pieces : List Piece) (line comment rest : List ℕ) (kind : Kind) (last is_open : Bool) (game game' : GameText) → IsOfGame is_open line comment rest kind last → AreValues ((pieces ++ Space 32 ∷ []) ++ comment_before comment) false game → ((before more : List Piece) (open_behind : Bool) → AreValues before false game → HasPieces false rest more open_behind → AreValues (before ++ more) open_behind game') → LineMore pieces kind last game'
of_game pieces line comment rest kind last is_open game game' of h made =
    let front = (pieces ++ Space 32 ∷ []) ++ comment_before comment in
    let same = append_assoc (pieces ++ Space 32 ∷ []) (comment_before comment) of.pieces ∙ append_assoc pieces (Space 32 ∷ []) (comment_before comment ++ of.pieces) in (
      ap is_gap_kind of.are,
      subst (λ k. AreValues (pieces ++ (Space 32 ∷ pieces_of k)) last game') (sym of.are)
          (subst (λ l. AreValues l last game') same (made front of.pieces last h of.has)),
    )

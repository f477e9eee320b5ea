use Rattle.recorded_plays.proofs.LinesTaken.{gap, escaped, in_comment, no_comment, some_comment, of_game}
use Rattle.std.proofs.Common.{[], ◌∷◌, ◌++◌, false, refl, sym, ◌∙◌, subst, append-nil}
use Rattle.pbn_deals.specs.Pieces as seen
use Rattle.pbn_deals.specs.FirstPieces.{comment_before}
use Rattle.recorded_plays.specs.declared.game_texts.GameText.{GameText}
use Rattle.recorded_plays.specs.Values.{AreValues}
use Rattle.recorded_plays.proofs.game_texts.GameText.take_line.Goals as goal
use Rattle.recorded_plays.proofs.game_texts.GameText.take_line.Goals.{then-not-is_empty+in_ok-take-in-OfGame, else-not-is_empty}

pub returns-in-Gap : goal.returns-in-Gap
returns-in-Gap c = λ pieces kind last h is.
    gap pieces c.args.line.now kind last c.args.self.now.is_open c.line_start.result (c.line_start.ensures kind last is) c.in-Gap.is c.args.self.now h

pub returns-in_ok-begin_line-in-Escaped : goal.returns-in_ok-begin_line-in-Escaped
returns-in_ok-begin_line-in-Escaped c = λ pieces kind last h is.
    escaped pieces c.args.line.now kind last c.args.self.now.is_open c.line_start.result (c.line_start.ensures kind last is) c.in-Escaped.is _ (c.in_ok-begin_line-in-Escaped.ensures pieces c.args.self.now.is_open h)

pub returns-in_ok-take-in-InComment : goal.returns-in_ok-take-in-InComment
returns-in_ok-take-in-InComment c = λ pieces kind last h is.
    in_comment pieces c.args.line.now kind last c.args.self.now.is_open c.line_start.result (c.line_start.ensures kind last is) c.in-InComment.is _
    (c.in_ok-take-in-InComment.ensures (pieces ++ seen.Space 32 ∷ []) (seen.Comment c.args.line.now ∷ []) (c.in_ok-begin_line-in-InComment.ensures pieces c.args.self.now.is_open h) refl)

pub returns-in_ok-take_pieces-in-OfGame : goal.returns-in_ok-take_pieces-in-OfGame
returns-in_ok-take_pieces-in-OfGame c = λ pieces kind last h is.
    let game = c.if-not-is_empty.self in
    let comment = c.in-OfGame.comment.now in
    let front = pieces ++ seen.Space 32 ∷ [] in
    let begun = c.in_ok-begin_line-in-OfGame.ensures pieces c.args.self.now.is_open h in
    let here : AreValues (front ++ comment_before comment) false game = elim c.if-not-is_empty.branch [
      | then-not-is_empty+in_ok-take-in-OfGame w ↦
          subst (λ (g : GameText). AreValues (front ++ comment_before comment) false g) (sym w.self-is)
          (subst (λ l. AreValues (front ++ l) false w.take-then-not-is_empty.new.self) (sym (some_comment comment (sym c.is_empty.ensures ∙ w.if-not-is_empty.true)))
          (w.in_ok-take-in-OfGame.ensures front (seen.Comment comment ∷ []) begun refl))
      | else-not-is_empty w ↦
          subst (λ (g : GameText). AreValues (front ++ comment_before comment) false g) (sym w.self-is)
          (subst (λ l. AreValues (front ++ l) false c.begin_line-in-OfGame.new.self) (sym (no_comment comment (sym c.is_empty.ensures ∙ w.if-not-is_empty.false)))
          (subst (λ l. AreValues l false c.begin_line-in-OfGame.new.self) (sym (append-nil front)) begun))
    ] in
    of_game pieces c.args.line.now comment c.in-OfGame.rest.now kind last c.args.self.now.is_open game c.take_pieces.new.self (c.in-OfGame.ensures kind last is) here c.in_ok-take_pieces-in-OfGame.ensures

use Rattle.std.proofs.Common.{◌≡◌, ℕ, List, [], ◌∷◌, ◌++◌, length, refl, sym, ◌∙◌, ap, subst, arith}
use Rattle.std.proofs.lemmas.Bool.{eqb-true, eqb-false}
use Rattle.pbn_deals.specs.FirstPieces.{comment_before}
use Rattle.pbn_deals.specs.Pieces.{Comment, OfGame}
use Rattle.whole_texts.specs.Facts.{AreFacts}
use Rattle.whole_texts.proofs.line_facts.line_facts.Goals as goal

none_before : (comment : List ℕ) → length comment ≡ 0 → comment_before comment ≡ []
none_before [] e = refl
none_before (byte ∷ bytes) e = absurd (omega arith)

some_before : (comment : List ℕ) → (length comment ≡ 0 → ⊥) → comment_before comment ≡ Comment comment ∷ []
some_before [] n = absurd (n refl)
some_before (byte ∷ bytes) n = refl

-- src/line_facts.rt:22:1
pub returns-in-InComment : goal.returns-in-InComment
returns-in-InComment c = λ kind last h.
    let (was_open, is, opened) = c.in-InComment.ensures kind last h in
    let line = c.args.line.now in (
      Comment line ∷ [],
      is,
      subst (λ o. AreFacts c.args.renews c.args.in_table (Comment line ∷ []) o c.with.result) (sym opened) (c.with.ensures c.args.in_table [] (Comment line ∷ []) c.new-none.ensures refl (λ e. cc)),
    )

-- src/line_facts.rt:22:1
pub returns-then-is_empty : goal.returns-then-is_empty
returns-then-is_empty c = λ kind last h.
    let of = c.in-OfGame.ensures kind last h in
    let none = none_before c.in-OfGame.comment.now (eqb-true (length c.in-OfGame.comment.now) 0 (sym c.if-is_empty.ensures)) in (
      of.pieces,
      of.are ∙ ap (λ l. OfGame (l ++ of.pieces)) none,
      c.add_pieces.ensures c.args.in_table [] of.pieces last c.new-none.ensures of.has,
    )

-- src/line_facts.rt:22:1
pub returns-else-is_empty : goal.returns-else-is_empty
returns-else-is_empty c = λ kind last h.
    let of = c.in-OfGame.ensures kind last h in
    let comment = c.in-OfGame.comment.now in
    let some = some_before comment (eqb-false (length comment) 0 (sym c.if-is_empty.ensures)) in (
      Comment comment ∷ of.pieces,
      of.are ∙ ap (λ l. OfGame (l ++ of.pieces)) some,
      c.add_pieces-else-is_empty.ensures c.args.in_table (Comment comment ∷ []) of.pieces last
          (c.with-else-is_empty.ensures c.args.in_table [] (Comment comment ∷ []) c.new-none.ensures refl (λ e. cc)) of.has,
    )

use Rattle.std.proofs.Common.{ℕ, List, cond, [], refl, sym, ◌∙◌, ap, subst}
use Rattle.std.specs.Borrow.{Bor}
use Rattle.pbn_deals.specs.FirstPieces.{ArePieces}
use Rattle.whole_texts.proofs.PiecesGo.{others_left, data_left}
use Rattle.whole_texts.proofs.leaving.piece_left.Goals as goal
use Rattle.whole_texts.proofs.leaving.piece_left.Goals.{then-in_table, else-in_table, in-Blanks, in-Blanks-2, in-Blanks-3, in-Blanks-4}

pub returns-after-in_table-clause-left : goal.returns-after-in_table-clause-left
returns-after-in_table-clause-left c = λ pieces are.
    let is = subst (λ p. ArePieces p pieces) c.in-Data.is are in
    let bytes = c.in-Data.bytes.now in
    (data_left c.args.renews c.args.in_table pieces bytes c.if-in_table.result.now is.0 is.1 (elim c.if-in_table.branch [
      | then-in_table w ↦ ap (λ (b : Bor (List ℕ)). b.now) w.result-is ∙ ap (λ b. cond b [] bytes) (sym w.if-in_table.true)
      | else-in_table w ↦ ap (λ (b : Bor (List ℕ)). b.now) w.result-is ∙ ap (λ b. cond b [] bytes) (sym w.if-in_table.false)
    ])).0

pub returns-after-in_table-clause-behind : goal.returns-after-in_table-clause-behind
returns-after-in_table-clause-behind c = λ pieces are.
    let is = subst (λ p. ArePieces p pieces) c.in-Data.is are in
    (data_left c.args.renews c.args.in_table pieces c.in-Data.bytes.now (cond c.args.in_table [] c.in-Data.bytes.now) is.0 is.1 refl).1

pub returns-in-Blanks-clause-left : goal.returns-in-Blanks-clause-left
returns-in-Blanks-clause-left c = λ pieces are.
    elim c.in-Blanks-1.branch [
      | in-Blanks w ↦ ap (λ (b : Bor (List ℕ)). b.now) w.bytes-is ∙ (others_left c.args.renews c.args.in_table c.args.piece pieces w.in-Blanks.bytes w.in-Blanks.is are).0
      | in-Blanks-2 w ↦ ap (λ (b : Bor (List ℕ)). b.now) w.bytes-is ∙ (others_left c.args.renews c.args.in_table c.args.piece pieces w.in-Blanks.bytes w.in-Blanks.is are).0
      | in-Blanks-3 w ↦ ap (λ (b : Bor (List ℕ)). b.now) w.bytes-is ∙ (others_left c.args.renews c.args.in_table c.args.piece pieces w.in-Blanks.bytes w.in-Blanks.is are).0
      | in-Blanks-4 w ↦ ap (λ (b : Bor (List ℕ)). b.now) w.bytes-is ∙ (others_left c.args.renews c.args.in_table c.args.piece pieces w.in-Blanks.bytes w.in-Blanks.is are).0
    ]

pub returns-in-Blanks-clause-behind : goal.returns-in-Blanks-clause-behind
returns-in-Blanks-clause-behind c = λ pieces are.
    elim c.in-Blanks-1.branch [
      | in-Blanks w ↦ (others_left c.args.renews c.args.in_table c.args.piece pieces w.in-Blanks.bytes w.in-Blanks.is are).1
      | in-Blanks-2 w ↦ (others_left c.args.renews c.args.in_table c.args.piece pieces w.in-Blanks.bytes w.in-Blanks.is are).1
      | in-Blanks-3 w ↦ (others_left c.args.renews c.args.in_table c.args.piece pieces w.in-Blanks.bytes w.in-Blanks.is are).1
      | in-Blanks-4 w ↦ (others_left c.args.renews c.args.in_table c.args.piece pieces w.in-Blanks.bytes w.in-Blanks.is are).1
    ]

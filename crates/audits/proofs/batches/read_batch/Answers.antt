use Rattle.std.proofs.Common.{◌≡◌, List, [], ◌∷◌, ◌++◌, length, sym, ◌∙◌, ap, subst, arith}
use Rattle.std.proofs.lemmas.List.{length_push}
use Rattle.evidence.specs.declared.parts.Piece.{Piece}
use Rattle.audits.specs.Batches.{Cuts}
use Rattle.audits.proofs.BatchLaws.{cuts_push, batch_stops, batch_full}
use Rattle.audits.proofs.batches.read_batch.Goals as goal
use Rattle.audits.proofs.batches.read_batch.Goals.{else-loop-piece-test, then-loop-piece-test+else-is_err+in-Ok-Some+then-bytes-full}

pub returns-then-is_err : goal.returns-then-is_err
returns-then-is_err g c =
    batch_stops c.args.evidence.now c.loop-piece.evidence c.reserve.new.self.items
    (subst (λ (l : List Piece). Cuts c.args.evidence.now l c.loop-piece.evidence) (sym c.reserve.ensures.items) c.loop-piece.invariant.cuts)

pub loop-piece-preserved : goal.loop-piece-preserved
loop-piece-preserved g c =
    let inv = c.loop-piece.invariant in
    let old = c.loop-piece.pieces.items in
    let piece = c.in-Ok-Some.piece in
    let next = rw c.in-Ok-Some.field-0-is at c.in-Ok-Some.ensures in
    let pushed : c.push_reserved.new.self.items ≡ old ++ piece ∷ [] = c.push_reserved.ensures.items ∙ ap (λ (l : List Piece). l ++ piece ∷ []) c.reserve.ensures.items in
    record {
      cuts = subst (λ (l : List Piece). Cuts c.args.evidence.now l c.next_piece.new.self) (sym pushed) (cuts_push c.args.evidence.now c.loop-piece.evidence c.next_piece.new.self old piece inv.cuts next);
      many = let longer = ap length pushed ∙ length_push old piece in omega (arith, longer, inv.many);
    }

pub returns : goal.returns
returns g c =
    let inv = c.loop-piece.invariant in
    elim c.loop-piece-test.branch [
      | else-loop-piece-test w ↦
          rw (w.evidence-is, w.pieces-is) (batch_full c.args.evidence.now c.loop-piece.evidence c.loop-piece.pieces.items inv.cuts (omega (arith, inv.many, w.loop-piece-test.false)))
      | then-loop-piece-test+else-is_err+in-Ok-Some+then-bytes-full w ↦
          let old = c.loop-piece.pieces.items in
          let piece = w.in-Ok-Some.piece in
          let next = rw w.in-Ok-Some.field-0-is at w.in-Ok-Some.ensures in
          let pushed : w.push_reserved.new.self.items ≡ old ++ piece ∷ [] = w.push_reserved.ensures.items ∙ ap (λ (l : List Piece). l ++ piece ∷ []) w.reserve.ensures.items in
          let longer = ap length pushed ∙ length_push old piece in
          rw (w.evidence-is, w.pieces-is)
          (batch_full c.args.evidence.now w.next_piece.new.self w.push_reserved.new.self.items
          (subst (λ (l : List Piece). Cuts c.args.evidence.now l w.next_piece.new.self) (sym pushed) (cuts_push c.args.evidence.now c.loop-piece.evidence w.next_piece.new.self old piece inv.cuts next))
          (omega (arith, longer)))
    ]

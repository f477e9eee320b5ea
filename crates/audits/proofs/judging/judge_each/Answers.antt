use Rattle.std.proofs.Common.{List, [], ◌∷◌, ◌++◌, ◌∙◌, take, sym, ap, subst}
use Rattle.std.proofs.lemmas.List.{take_more}
use Rattle.std.specs.List.{AllZip}
use Rattle.rayon.proofs.ListFacts.{AllZip-append}
use Rattle.evidence.specs.declared.parts.Piece.{Piece}
use Rattle.audits.specs.Batches.{Judges}
use Rattle.audits.proofs.judging.judge_each.Goals as goal

pub loop-piece-preserved : goal.loop-piece-preserved
loop-piece-preserved g c =
    let pieces = c.args.pieces.now in
    let place = c.loop-piece.piece-index in
    let piece = c.piece-item.result in
    let judged = c.loop-piece.judged.items ++ c.judge.result ∷ [] in
    let more : AllZip (Judges c.args.boards.now c.args.firsts.now) (take place pieces ++ piece ∷ []) judged =
    AllZip-append (Judges c.args.boards.now c.args.firsts.now) _ (piece ∷ []) _ (c.judge.result ∷ []) c.loop-piece.invariant (c.judge.ensures, tt) in
    let first = ap (λ (p : Piece). take place pieces ++ p ∷ []) c.piece-item.is ∙ sym (take_more pieces place piece c.loop-piece-test.true) in
    let whole = subst (λ (l : List Piece). AllZip (Judges c.args.boards.now c.args.firsts.now) l judged) first more in
    rw (sym c.in_ok-push.ensures.items) at whole

use Rattle.std.proofs.Common.{List, ◌++◌, take, drop, sym, subst}
use Rattle.std.proofs.lemmas.List.{take-append-drop}
use Rattle.std.specs.List.{AllZip}
use Rattle.rayon.proofs.ListFacts.{AllZip-append}
use Rattle.evidence.specs.declared.parts.Piece.{Piece}
use Rattle.audits.specs.Batches.{Judges}
use Rattle.audits.proofs.judging.+fn-judge_halves-join+arg2+fn-judge_halves-join+arg3+judge_halves.Goals as goal

pub returns : goal.returns
returns g t c =
    let pieces = c.args.pieces.now in
    let middle = c.middle_of.result in
    let judged = c.in_ok-one.one.items ++ c.in_ok-other.other.items in
    let first = rw c.in_ok-one.was at c.join-one.ensures.first in
    let second = rw c.in_ok-other.was at c.join-one.ensures.second in
    let both = AllZip-append (Judges c.args.boards.now c.args.firsts.now) _ _ _ _ first second in
    let fronts = rw c.split_at.ensures.front at both in
    let halves : AllZip (Judges c.args.boards.now c.args.firsts.now) (take middle pieces ++ drop middle pieces) judged = rw c.split_at.ensures.back at fronts in
    let whole = subst (λ (l : List Piece). AllZip (Judges c.args.boards.now c.args.firsts.now) l judged) (take-append-drop middle pieces) halves in
    rw (sym c.in_ok-append.ensures.items) at whole

use Rattle.std.proofs.Common.{List, take, sym, subst, arith}
use Rattle.std.proofs.lemmas.Slice.Zip.{AllZip-long}
use Rattle.evidence.specs.declared.parts.Piece.{Piece}
use Rattle.audits.specs.declared.judging.Judged.{Judged}
use Rattle.audits.specs.Batches.{Judges, NotesPieces}
use Rattle.audits.proofs.BatchLaws.{zip_next, notes_push, grows_more}
use Rattle.audits.proofs.firsts.FirstProofs.note_batch.Goals as goal

pub loop-one-preserved : goal.loop-one-preserved
loop-one-preserved c =
    let inv = c.loop-one.invariant in
    let index = c.loop-one.one-index in
    let boards = c.args.boards.now in
    let old = c.args.self.now in
    let new = c.note_judged.new.self in
    record {
      notes = λ pieces all.
          let next = zip_next (Judges boards old) pieces c.args.judged.now index c.one-item.result all c.loop-one-test.true in
          subst (λ (l : List Piece). NotesPieces boards l old new c.args.damage c.in-Some.after) (sym next.1)
          (notes_push boards old c.loop-one.self new c.args.damage c.loop-one.damage c.in-Some.after (take index pieces) next.0 (inv.notes pieces all)
          (c.in-Some.ensures.notes old next.0 (subst (λ (j : Judged). Judges boards old next.0 j) (sym c.one-item.is) next.2) inv.grows));
      grows = grows_more old c.loop-one.self new inv.grows c.in-Some.ensures.grows;
      places = c.in-Some.ensures.places;
    }

pub returns-clause-notes : goal.returns-clause-notes
returns-clause-notes c = λ pieces all.
    let inv = c.loop-one.invariant in
    let long = AllZip-long (Judges c.args.boards.now c.args.self.now) pieces c.args.judged.now all in
    record {
      count = c.loop-one.one-index;
      notes = inv.notes pieces all;
      whole = λ is. omega (arith, long, c.loop-one-test.false, c.loop-one.auto.one-index-end);
    }

use Rattle.std.proofs.Common.{List, [], length, inl, sym, ◌∙◌, ap, subst, Bool, Option, Err}
use Rattle.std.specs.List.{AllZip}
use Rattle.checker.specs.declared.entries.Shown.{Shown}
use Rattle.streams.specs.declared.inputs.InputFault.{InputFault}
use Rattle.audits.specs.Firsts.{AreFirstShown}
use Rattle.audits.specs.Shows.{ReadsFirsts}
use Rattle.audits.specs.declared.batches.Batch.{Batch}
use Rattle.audits.specs.declared.judging.Judged.{Judged}
use Rattle.audits.specs.Batches.{Judges, NotesSome}
use Rattle.audits.proofs.ReadLaws.{begins, stopped}
use Rattle.audits.proofs.BatchLaws.{batch_lost, batch_unread, batch_cut_off, batch_ends, batch_goes_on}
use Rattle.audits.proofs.FirstLaws.{first_of_none}
use Rattle.audits.proofs.reading.read_firsts.Goals as goal

pub loop-turn-init : goal.loop-turn-init
loop-turn-init g c =
    record {
      so_far = λ old batch. (
        old,
        [],
        begins old c.none-damage.result c.none-damage.ensures,
        subst (λ (f : List (Option Shown)). AreFirstShown c.args.boards.now [] f) (sym c.requires.none) (first_of_none c.args.boards.now),
        batch,
      );
      places = inl (ap length c.requires.none);
    }

pub returns-in_default-clause-reads : goal.returns-in_default-clause-reads
returns-in_default-clause-reads g c =
    let old = c.args.evidence.now in
    let far = c.loop-turn.invariant.so_far old c.read_batch.ensures in
    let next = c.judge_and_read-judged.result.1 in
    subst (λ (fault : InputFault). ReadsFirsts c.args.boards.now old c.judge_and_read-judged.new.evidence c.loop-turn.firsts (record { damage = c.loop-turn.damage; ended = Err fault })) (sym c.fault_of.ensures)
    (batch_unread c.args.boards.now old far.0 c.loop-turn.evidence c.judge_and_read-judged.new.evidence c.loop-turn.firsts c.loop-turn.firsts c.loop-turn.damage c.loop-turn.damage
    c.loop-turn.course.batch.pieces.items next.pieces.items c.loop-turn.course.batch.ended next.ended far.1 far.2 far.3 far.4 c.judge_and_read-judged.ensures.behind)

pub returns-then-not-is_whole-clause-reads : goal.returns-then-not-is_whole-clause-reads
returns-then-not-is_whole-clause-reads g c =
    let old = c.args.evidence.now in
    let far = c.loop-turn.invariant.so_far old c.read_batch.ensures in
    let batch = c.loop-turn.course.batch in
    let next = c.judge_and_read-judged.result.1 in
    let judges = Judges c.args.boards.now c.loop-turn.firsts in
    let shown = rw c.in-Ok.is at c.judge_and_read-judged.ensures.judged in
    let notes = c.note_batch-is_whole.ensures.notes batch.pieces.items (subst (λ (judged : List Judged). AllZip judges batch.pieces.items judged) (sym c.as_slice.ensures.value) shown) in
    subst (λ (fault : InputFault). ReadsFirsts c.args.boards.now old c.judge_and_read-judged.new.evidence c.note_batch-is_whole.new.self (record { damage = c.note_batch-is_whole.result.0; ended = Err fault })) (sym c.fault_of-then-not-is_whole.ensures)
    (batch_cut_off c.args.boards.now old far.0 c.loop-turn.evidence c.judge_and_read-judged.new.evidence c.loop-turn.firsts c.note_batch-is_whole.new.self c.loop-turn.damage c.note_batch-is_whole.result.0
    batch.pieces.items next.pieces.items batch.ended next.ended far.1 far.2 far.3 far.4 c.judge_and_read-judged.ensures.behind c.note_batch-is_whole.result.1 notes)

pub returns-in-Some-clause-reads : goal.returns-in-Some-clause-reads
returns-in-Some-clause-reads g c =
    let old = c.args.evidence.now in
    let far = c.loop-turn.invariant.so_far old c.read_batch.ensures in
    let batch = c.loop-turn.course.batch in
    let next = c.judge_and_read-judged.result.1 in
    let judges = Judges c.args.boards.now c.loop-turn.firsts in
    let shown = rw c.in-Ok.is at c.judge_and_read-judged.ensures.judged in
    let notes = c.note_batch-is_whole.ensures.notes batch.pieces.items (subst (λ (judged : List Judged). AllZip judges batch.pieces.items judged) (sym c.as_slice.ensures.value) shown) in
    let whole = subst (λ (all : Bool). NotesSome c.args.boards.now batch.pieces.items c.loop-turn.firsts c.note_batch-is_whole.new.self c.loop-turn.damage c.note_batch-is_whole.result.0 all) c.if-not-is_whole.false notes in
    batch_ends c.args.boards.now old far.0 c.loop-turn.evidence c.judge_and_read-judged.new.evidence c.loop-turn.firsts c.note_batch-is_whole.new.self c.loop-turn.damage c.note_batch-is_whole.result.0
    batch.pieces.items next.pieces.items batch.ended next.ended far.1 far.2 far.3 far.4 c.judge_and_read-judged.ensures.behind whole c.in-Some.ended
    (sym (ap (λ (b : Batch). b.ended) c.judge_and_read-judged.ensures.kept) ∙ c.in-Some.is)

pub loop-turn-preserved : goal.loop-turn-preserved
loop-turn-preserved g c =
    let batch = c.loop-turn.course.batch in
    let next = c.judge_and_read-judged.result.1 in
    let judges = Judges c.args.boards.now c.loop-turn.firsts in
    let shown = rw c.in-Ok.is at c.judge_and_read-judged.ensures.judged in
    let notes = c.note_batch-is_whole.ensures.notes batch.pieces.items (subst (λ (judged : List Judged). AllZip judges batch.pieces.items judged) (sym c.as_slice.ensures.value) shown) in
    let whole = subst (λ (all : Bool). NotesSome c.args.boards.now batch.pieces.items c.loop-turn.firsts c.note_batch-is_whole.new.self c.loop-turn.damage c.note_batch-is_whole.result.0 all) c.if-not-is_whole.false notes in
    record {
      so_far = λ old first.
          let far = c.loop-turn.invariant.so_far old first in
          batch_goes_on c.args.boards.now old far.0 c.loop-turn.evidence c.judge_and_read-judged.new.evidence c.loop-turn.firsts c.note_batch-is_whole.new.self c.loop-turn.damage c.note_batch-is_whole.result.0
          batch.pieces.items next.pieces.items batch.ended next.ended far.1 far.2 far.3 far.4 c.judge_and_read-judged.ensures.behind whole
          (sym (ap (λ (b : Batch). b.ended) c.judge_and_read-judged.ensures.kept) ∙ c.in_default-ended.is);
      places = c.note_batch-is_whole.ensures.places;
    }

pub returns-clause-reads : goal.returns-clause-reads
returns-clause-reads g c =
    let old = c.args.evidence.now in
    let far = c.loop-turn.invariant.so_far old c.read_batch.ensures in
    let batch = c.loop-turn.course.batch in
    let lost = batch_lost old far.0 c.loop-turn.evidence far.1 c.loop-turn.damage batch.pieces.items batch.ended far.2 far.4 in
    subst (λ (fault : InputFault). ReadsFirsts c.args.boards.now old c.loop-turn.evidence c.loop-turn.firsts (record { damage = c.loop-turn.damage; ended = Err fault })) (sym c.fault_of-2.ensures)
    (record { parts = far.1; read_is = stopped old far.0 far.1 c.loop-turn.damage far.2 c.loop-turn.evidence _ lost; firsts_are = far.3 })

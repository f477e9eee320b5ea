-- The tasks so far are noted.
use Rattle.std.proofs.Common.{◌≡◌, All, Contains}
use Rattle.std.specs.Prelude.{vec_len}
use Rattle.play_pages.specs.Tasks.{NotesDone}
use Rattle.play_pages.proofs.threads.note_all.Given as goal

abbrev pub invariant-loop-task : goal.invariant-loop-task
invariant-loop-task l = record {
  len : vec_len l.noted ≡ vec_len l.fn.noted;
  notes : NotesDone l.fn.noted.items l.noted.items l.fn.done.items;
  left : All (Contains l.fn.done.items) l.done.items;
}

abbrev pub decreases-loop-task : goal.decreases-loop-task
decreases-loop-task l = vec_len l.done

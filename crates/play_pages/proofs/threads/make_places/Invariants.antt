-- Nothing is noted at the places so far.
use Rattle.std.proofs.Common.{◌≡◌, ℕ, None}
use Rattle.std.specs.Prelude.{vec_len, slice_index_or}
use Rattle.play_pages.proofs.threads.make_places.Given as goal

abbrev pub invariant-loop-task : goal.invariant-loop-task
invariant-loop-task l = record {
  len : vec_len l.noted ≡ l._task;
  none : (task : ℕ) → slice_index_or l.noted.items task None ≡ None;
}

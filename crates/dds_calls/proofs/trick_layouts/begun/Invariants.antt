-- The cards so far were played.
use Rattle.std.proofs.Common.{◌≡◌, take}
use Rattle.dds_calls.specs.Readings.{opening_with}
use Rattle.dds_calls.proofs.trick_layouts.begun.Given as goal

abbrev pub invariant-loop-card : goal.invariant-loop-card
invariant-loop-card l = record {
  opening : l.trick.opening ≡ opening_with l.fn.layout l.fn.start;
  history : l.trick.history ≡ take l.card-index l.cards;
}

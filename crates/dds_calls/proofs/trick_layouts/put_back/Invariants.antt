-- The cards so far are put back, and the next one was played by the seat.
use Rattle.std.proofs.Common.{◌≡◌, take}
use Rattle.cards.specs.Seats.{seat_in_place}
use Rattle.dds_calls.specs.Readings.{ArePutBack}
use Rattle.dds_calls.proofs.trick_layouts.put_back.Given as goal

abbrev pub invariant-loop-card : goal.invariant-loop-card
invariant-loop-card l = record {
  put : ArePutBack l.initial.words l.fn.leader (take l.card-index l.cards) l.words;
  turn : l.seat ≡ seat_in_place l.fn.leader l.card-index;
}

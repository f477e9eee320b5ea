-- The places so far are filled.
use Rattle.std.proofs.Common.{◌≡◌}
use Rattle.dds_calls.proofs.Places.{places_so_far}
use Rattle.dds_calls.proofs.pars.places_of.Given as goal

abbrev pub invariant-loop-place : goal.invariant-loop-place
invariant-loop-place l = l.places ≡ places_so_far l.list l.place

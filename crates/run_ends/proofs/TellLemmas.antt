-- A line that was written, or of which a beginning was.
use Rattle.std.proofs.Common.{List, ℕ, Result, Ok, Err, inl, inr}
use Rattle.cards.specs.Devices.{Device, Writes}
use Rattle.run_ends.specs.Telling.{IsTold}

pub IsTold-from_writes : {old new : Device} {line : List ℕ} {X E : Type 0} (result : Result X E) → Writes old new line result → IsTold old new line
IsTold-from_writes (Ok done) writes = inl writes
IsTold-from_writes (Err fault) writes = inr writes

-- An answer that was not handed on yet.
use Rattle.std.specs.Prelude.{Option, None, Some, Result, Ok, Err}
use Rattle.std.specs.declared.alloc.AllocError.{AllocError}
use Rattle.certificate_graph.specs.declared.bundles.Bundle.{Bundle}
use Rattle.evidence_solvers.specs.declared.pending.Pending.{Pending}

-- what was found
abbrev pub found_in : Result (Option Pending) AllocError → Option Bundle
found_in (Ok (Some pending)) = Some pending.bundle
found_in (Ok None) = None
found_in (Err fault) = None

-- How a reading ended.
use Rattle.std.specs.Prelude.{⊤, Result, Ok, Err}
use Rattle.certificate_graph.specs.declared.cursors.Stop.{Stop}
use Rattle.certificate_graph.specs.declared.cursors.Stop.TheVariants.{Other, NoMemory}

-- this is so of the rest where the form stood there, and that where it didn't
abbrev pub Ends : {X : Type 0} → Result X Stop → (X → Type 0) → Type 0 → Type 0
Ends (Ok rest) Found Lacking = Found rest
Ends (Err Other) Found Lacking = Lacking
Ends (Err NoMemory) Found Lacking = ⊤

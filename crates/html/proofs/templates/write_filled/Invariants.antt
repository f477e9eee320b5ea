-- What has gone out and what is left make the whole.
use Rattle.std.proofs.Common.{◌≡◌, ℕ, List, ◌++◌, length}
use Rattle.cards.specs.Devices.{Adds}
use Rattle.html.specs.Templates.{filled}
use Rattle.html.proofs.templates.write_filled.Given as goal

abbrev pub invariant-loop-place : goal.invariant-loop-place
invariant-loop-place g l =
    (gone : List ℕ) × Adds (g.S.Sink.state l.fn.sink) (g.S.Sink.state l.sink) gone
    × (gone ++ filled (g.V.Values.values l.values) l.rest ≡ filled (g.V.Values.values l.fn.values) l.fn.template)

abbrev pub decreases-loop-place : goal.decreases-loop-place
decreases-loop-place g l = length l.rest

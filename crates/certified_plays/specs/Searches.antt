-- What a solver is asked for a recorded play, and what its answer shows.
use Rattle.std.specs.Prelude.{◌≡◌, ℕ, Option, Some, Result, Ok, Err, ⊤}
use Rattle.cards.specs.declared.faults.OutOfMemory.{OutOfMemory}
use Rattle.play_claims.specs.declared.claims.PlayBundle.{PlayBundle}
use Rattle.play_claims.specs.Solvers.{MayFindPlay}
use Rattle.play_values.specs.PlayValues.{Recorded}
use Rattle.certified_plays.specs.declared.proofs.PlayProofs.{PlayProofs}
use Rattle.certified_plays.specs.declared.searching.PlayFound.{PlayFound}
use Rattle.certified_plays.specs.Values.{ShownPlay, AreShownValues, AreJudged}

-- the graphs and begun nodes of a bundle
pub record AreProofsOf (bundle : PlayBundle) (proofs : PlayProofs) : Type 0 where
  pub ns_graph : proofs.ns_graph.now ≡ bundle.ns.graph.value
  pub ew_graph : proofs.ew_graph.now ≡ bundle.ew.graph.value
  pub ns_begun : proofs.ns_begun.now ≡ bundle.ns.begun.items
  pub ew_begun : proofs.ew_begun.now ≡ bundle.ew.begun.items

-- the bundle shows these values of the play, and no others
pub record ShowsPlay (bundle : PlayBundle) (play : Recorded) (shown : ShownPlay) : Type 0 where
  pub proofs : PlayProofs
  pub proofs_are : AreProofsOf bundle proofs
  pub judged : AreJudged proofs bundle.claims.items play shown
  pub are : AreShownValues shown.play shown.entries

abbrev pub IsBundleJudged : Recorded → PlayBundle → Result ShownPlay OutOfMemory → Type 0
IsBundleJudged play bundle (Ok shown) = ShowsPlay bundle play shown
IsBundleJudged play bundle (Err fault) = ⊤

-- the solver may give this answer for the play
abbrev pub MayAnswer : MayFindPlay → Recorded → ℕ → Option PlayBundle → Type 0
MayAnswer may_find play budget answer =
    may_find play.position.opening.deal play.position.opening.leader play.position.opening.trump play.position.history
    budget answer

-- the values that the solver's answer shows, unless memory runs out, in the search or while its answer is checked
abbrev pub FindsPlay : MayFindPlay → Recorded → ℕ → Result PlayFound OutOfMemory → Type 0
FindsPlay may_find play budget (Ok found) =
    MayAnswer may_find play budget (Some found.bundle) × ShowsPlay found.bundle play found.values
FindsPlay may_find play budget (Err fault) = (answer : Option PlayBundle) × MayAnswer may_find play budget answer

-- What a solver is asked for a denomination, and what comes of its answer.
use Rattle.std.specs.Prelude.{◌≡◌, ℕ, [], ◌∷◌, Option, None, Some, Result, Ok, Err}
use Rattle.cards.specs.declared.faults.OutOfMemory.{OutOfMemory}
use Rattle.cards.specs.declared.seats.Seat.{Seat}
use Rattle.cards.specs.declared.seats.Seat.TheVariants.{North, East, South, West}
use Rattle.cards.specs.declared.suits.Trump.{Trump}
use Rattle.cards.specs.Seats.{side_of, other_side}
use Rattle.cards.specs.Deal.{Deal}
use Rattle.strategies.specs.Values.{IsValue}
use Rattle.certificate_graph.specs.declared.bundles.Bundle.{Bundle}
use Rattle.certificate_graph.specs.declared.bundles.Claim.{Claim}
use Rattle.certificate_graph.specs.Bundles.{claim_for, graph_of}
use Rattle.certificate_graph.specs.Solvers.{MayFind}
use Rattle.checker.specs.Roots.{RootedShape}
use Rattle.checker.specs.EntryFaults.{IsEntryFault}
use Rattle.checker.specs.declared.entry_faults.EntryFault.{EntryFault}
use Rattle.certified_tricks.specs.declared.answers.FourTricks.{FourTricks}
use Rattle.certified_tricks.specs.declared.answers.TricksFound.{TricksFound}

-- the graphs of a claim: that of declarer's side, and that of the defenders
abbrev pub declarers_of : Bundle → Claim → RootedShape
declarers_of bundle claim =
    record { graph = graph_of bundle (side_of claim.declarer); root = claim.declarer_root }

abbrev pub defenders_of : Bundle → Claim → RootedShape
defenders_of bundle claim =
    record { graph = graph_of bundle (other_side (side_of claim.declarer)); root = claim.defenders_root }

-- the graphs don't show the claim for a declarer: they have a fault
abbrev pub IsRefused : Deal → Trump → Bundle → Seat → Claim → Type 0
IsRefused deal trump bundle declarer claim =
    (fault : EntryFault)
    × IsEntryFault deal declarer trump claim.k (declarers_of bundle claim) (defenders_of bundle claim) fault

-- What is known of a declarer: the tricks of the first claim, if its graphs show it. They are the double-dummy value.
abbrev pub IsKnown : Deal → Trump → Bundle → Seat → Option ℕ → Type 0
IsKnown deal trump bundle declarer (Some tricks) =
    (claim : Claim) × (claim_for bundle.claims.items declarer ≡ Some claim) × (claim.k ≡ tricks)
    × IsValue deal declarer trump tricks
IsKnown deal trump bundle declarer None =
    (claim : Claim) → claim_for bundle.claims.items declarer ≡ Some claim → IsRefused deal trump bundle declarer claim

-- what is known of the four declarers by an answer
pub record AreKnownBy (deal : Deal) (trump : Trump) (bundle : Bundle) (tricks : FourTricks) : Type 0 where
  pub north : IsKnown deal trump bundle North tricks.north
  pub east : IsKnown deal trump bundle East tricks.east
  pub south : IsKnown deal trump bundle South tricks.south
  pub west : IsKnown deal trump bundle West tricks.west

-- the solver may give this answer for the four declarers
abbrev pub MayAnswer : MayFind → Deal → Trump → ℕ → Option Bundle → Type 0
MayAnswer may_find deal trump budget answer =
    may_find deal (North ∷ East ∷ South ∷ West ∷ []) trump budget answer

-- what the solver's answer shows; memory runs out in the search, or while its answer is checked
abbrev pub FindsTricks : MayFind → Deal → Trump → ℕ → Result (Option TricksFound) OutOfMemory → Type 0
FindsTricks may_find deal trump budget (Ok (Some found)) =
    MayAnswer may_find deal trump budget (Some found.bundle) × AreKnownBy deal trump found.bundle found.tricks
FindsTricks may_find deal trump budget (Ok None) = MayAnswer may_find deal trump budget None
FindsTricks may_find deal trump budget (Err fault) =
    (answer : Option Bundle) × MayAnswer may_find deal trump budget answer

-- The first fault of the graphs that have to show a value.
use Rattle.std.specs.Prelude.{◌≡◌, ◌≢◌, ℕ, ◌-◌, ◌<◌, ◌≤◌, None, Some, ◌⊎◌, Result, MatchResult}
use Rattle.cards.specs.declared.suits.Trump.{Trump}
use Rattle.cards.specs.declared.seats.Seat.{Seat}
use Rattle.cards.specs.declared.seats.Side.{Side}
use Rattle.cards.specs.Seats.{next_of, side_of, other_side}
use Rattle.cards.specs.Deal.{Deal, size_of}
use Rattle.patterns.specs.Holders.{Matches}
use Rattle.certificate_graph.specs.declared.nodes.Node as nodes
use Rattle.checker.specs.declared.faults.NodeFault.{NodeFault}
use Rattle.checker.specs.declared.entry_faults.PartFault.{PartFault}
use Rattle.checker.specs.declared.entry_faults.PartFault.TheVariants.{RootMissing, RootNeedless, RootTrump, RootSide}
use Rattle.checker.specs.declared.entry_faults.PartFault.TheVariants.{RootLead, RootNeed, RootPattern, Node}
use Rattle.checker.specs.declared.entry_faults.EntryFault.{EntryFault}
use Rattle.checker.specs.declared.entry_faults.EntryFault.TheVariants.{KTooLarge, Declarer, Defenders}
use Rattle.checker.specs.declared.entries.Shown.{Shown}
use Rattle.checker.specs.Faults.{IfWrong, NoFault, IsGraphFault}
use Rattle.checker.specs.Roots.{RootedShape, root_of}
use Rattle.checker.specs.Claims.{HasRoot, Shows, ShowValue}

-- the first fault of a root
abbrev pub IsRootFault : nodes.Node → Deal → Seat → ℕ → PartFault → Type 0
IsRootFault root deal leader need =
    IfWrong (root.lead ≢ leader) RootLead
    (IfWrong (root.need ≢ need) RootNeed
    (IfWrong (Matches root.pattern deal → ⊥) RootPattern NoFault))

-- there is a root, and it has this fault
abbrev pub HasRootFault : RootedShape → Deal → Seat → ℕ → PartFault → Type 0
HasRootFault rooted deal leader need fault =
    (root : nodes.Node) × (root_of rooted ≡ Some root) × IsRootFault root deal leader need fault

-- the fault is the fault of a node; it counts if there is a root
abbrev pub IsNodesFault : RootedShape → PartFault → Type 0
IsNodesFault rooted fault =
    (rooted.root ≢ None) × (of_node : NodeFault) × (fault ≡ Node of_node) × IsGraphFault rooted.graph of_node

-- the first fault of a graph that has to show that the side wins `need` tricks
abbrev pub IsPartFault : RootedShape → Deal → Seat → Trump → Side → ℕ → PartFault → Type 0
IsPartFault rooted deal leader trump side need =
    IfWrong ((0 < need) × (root_of rooted ≡ None)) RootMissing
    (IfWrong ((need ≡ 0) × (rooted.root ≢ None)) RootNeedless
    (IfWrong (rooted.graph.trump ≢ trump) RootTrump
    (IfWrong (rooted.graph.side ≢ side) RootSide
    (λ fault. HasRootFault rooted deal leader need fault
    ⊎ (HasRoot rooted deal leader need × IsNodesFault rooted fault)))))

-- the first fault of the two graphs
abbrev pub IsEntryFault : Deal → Seat → Trump → ℕ → RootedShape → RootedShape → EntryFault → Type 0
IsEntryFault deal declarer trump tricks declarers defenders KTooLarge = size_of deal < tricks
IsEntryFault deal declarer trump tricks declarers defenders (Declarer fault) =
    (tricks ≤ size_of deal) × IsPartFault declarers deal (next_of declarer) trump (side_of declarer) tricks fault
IsEntryFault deal declarer trump tricks declarers defenders (Defenders fault) =
    (tricks ≤ size_of deal)
    × Shows declarers deal (next_of declarer) trump (side_of declarer) tricks
    × IsPartFault defenders deal (next_of declarer) trump (other_side (side_of declarer)) (size_of deal - tricks) fault

-- the answer for two graphs
abbrev pub EntryAnswers : Deal → Seat → Trump → ℕ → RootedShape → RootedShape → Result Shown EntryFault → Type 0
EntryAnswers deal declarer trump tricks declarers defenders answer =
    MatchResult answer
    (λ shown. (shown ≡ record { layout = deal; declarer = declarer; trump = trump; k = tricks })
    × ShowValue deal declarer trump tricks declarers defenders)
    (IsEntryFault deal declarer trump tricks declarers defenders)

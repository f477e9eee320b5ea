-- A graph that is to show something has no fault where it shows it, and else one at most.
use Rattle.std.proofs.Common.{◌≡◌, ◌≢◌, ℕ, zero, suc, ◌<◌, None, inl, inr, sym, ◌∙◌, ap, subst, arith}
use Rattle.std.specs.Prelude.{◌⊎◌}
use Rattle.std.proofs.lemmas.Option.{none-some, same_Some}
use Rattle.cards.specs.declared.suits.Trump.{Trump}
use Rattle.cards.specs.declared.seats.Seat.{Seat}
use Rattle.cards.specs.declared.seats.Side.{Side}
use Rattle.cards.specs.Deal.{Deal}
use Rattle.patterns.specs.Holders.{Matches}
use Rattle.certificate_graph.specs.declared.nodes.Node as nodes
use Rattle.checker.specs.declared.entry_faults.PartFault.{PartFault}
use Rattle.checker.specs.declared.entry_faults.PartFault.TheVariants.{RootMissing, RootNeedless, RootTrump, RootSide, RootLead, RootNeed, RootPattern, Node}
use Rattle.checker.specs.Steps.{StepsHold}
use Rattle.checker.specs.Faults.{IfWrong, NoFault}
use Rattle.checker.specs.Roots.{RootedShape, root_of}
use Rattle.checker.specs.Claims.{IsRootOf, HasRoot, Shows}
use Rattle.checker.specs.EntryFaults.{IsRootFault, HasRootFault, IsNodesFault, IsPartFault}
use Rattle.checker.proofs.FaultLaws.{one_of, none_of, none_of_graph, one_of_graph}
use Rattle.checker.proofs.PartLaws.{numbered}

-- what follows in the chains, one fault after another
abbrev AfterNeed : nodes.Node → Deal → PartFault → Type 0
AfterNeed root deal = IfWrong (Matches root.pattern deal → ⊥) RootPattern NoFault

abbrev AfterLead : nodes.Node → Deal → ℕ → PartFault → Type 0
AfterLead root deal need = IfWrong (root.need ≢ need) RootNeed (AfterNeed root deal)

abbrev AfterSide : RootedShape → Deal → Seat → ℕ → PartFault → Type 0
AfterSide rooted deal leader need fault = HasRootFault rooted deal leader need fault ⊎ (HasRoot rooted deal leader need × IsNodesFault rooted fault)

abbrev AfterTrump : RootedShape → Deal → Seat → Side → ℕ → PartFault → Type 0
AfterTrump rooted deal leader side need = IfWrong (rooted.graph.side ≢ side) RootSide (AfterSide rooted deal leader need)

abbrev AfterNeedless : RootedShape → Deal → Seat → Trump → Side → ℕ → PartFault → Type 0
AfterNeedless rooted deal leader trump side need = IfWrong (rooted.graph.trump ≢ trump) RootTrump (AfterTrump rooted deal leader side need)

abbrev AfterMissing : RootedShape → Deal → Seat → Trump → Side → ℕ → PartFault → Type 0
AfterMissing rooted deal leader trump side need = IfWrong ((need ≡ 0) × (rooted.root ≢ None)) RootNeedless (AfterNeedless rooted deal leader trump side need)

-- ---- the root
root_none : (root : nodes.Node) (deal : Deal) (leader : Seat) (need : ℕ) (fault : PartFault) → IsRootOf root deal leader need → IsRootFault root deal leader need fault → ⊥
root_none root deal leader need fault is =
    none_of (root.lead ≢ leader) RootLead (AfterLead root deal need) fault (λ wrong. wrong is.lead)
    (none_of (root.need ≢ need) RootNeed (AfterNeed root deal) fault (λ wrong. wrong is.need_is)
    (none_of (Matches root.pattern deal → ⊥) RootPattern NoFault fault (λ wrong. wrong is.pattern) (λ none. none)))

one_root : (root : nodes.Node) (deal : Deal) (leader : Seat) (need : ℕ) (one other : PartFault) → IsRootFault root deal leader need one → IsRootFault root deal leader need other → one ≡ other
one_root root deal leader need one other =
    one_of (root.lead ≢ leader) RootLead (AfterLead root deal need) one other
    (one_of (root.need ≢ need) RootNeed (AfterNeed root deal) one other
    (one_of (Matches root.pattern deal → ⊥) RootPattern NoFault one other (λ none. absurd none)))

right_root : (rooted : RootedShape) (deal : Deal) (leader : Seat) (need : ℕ) (fault : PartFault) → HasRoot rooted deal leader need → HasRootFault rooted deal leader need fault → ⊥
right_root rooted deal leader zero fault none (root, there, wrong) = numbered rooted.graph.nodes rooted.root root there none
right_root rooted deal leader (suc need) fault (own, at, is) (root, there, wrong) =
    root_none root deal leader (suc need) fault (subst (λ (n : nodes.Node). IsRootOf n deal leader (suc need)) (same_Some own root (sym at ∙ there)) is) wrong

not_missing : (rooted : RootedShape) (deal : Deal) (leader : Seat) (need : ℕ) → HasRoot rooted deal leader need → (0 < need) × (root_of rooted ≡ None) → ⊥
not_missing rooted deal leader zero has (needed, none) = absurd (omega arith)
not_missing rooted deal leader (suc need) (root, there, is) (needed, none) = none-some root (sym none ∙ there)

not_needless : (rooted : RootedShape) (deal : Deal) (leader : Seat) (need : ℕ) → HasRoot rooted deal leader need → (need ≡ 0) × (rooted.root ≢ None) → ⊥
not_needless rooted deal leader zero has (none, some) = some has
not_needless rooted deal leader (suc need) has (none, some) = absurd (omega arith)

-- ---- the whole
after_none : (rooted : RootedShape) (deal : Deal) (leader : Seat) (need : ℕ) (fault : PartFault) → HasRoot rooted deal leader need → (rooted.root ≢ None → StepsHold rooted.graph) → AfterSide rooted deal leader need fault → ⊥
after_none rooted deal leader need fault has steps (inl wrong) = right_root rooted deal leader need fault has wrong
after_none rooted deal leader need fault has steps (inr (has', (some, of_node, is, told))) = none_of_graph rooted.graph (steps some) of_node told

one_after : (rooted : RootedShape) (deal : Deal) (leader : Seat) (need : ℕ) (one other : PartFault) → AfterSide rooted deal leader need one → AfterSide rooted deal leader need other → one ≡ other
one_after rooted deal leader need one other (inl (root, there, told)) (inl (root', there', told')) =
    one_root root' deal leader need one other (subst (λ (n : nodes.Node). IsRootFault n deal leader need one) (same_Some root root' (sym there ∙ there')) told) told'
one_after rooted deal leader need one other (inl a) (inr b) = absurd (right_root rooted deal leader need one b.0 a)
one_after rooted deal leader need one other (inr a) (inl b) = absurd (right_root rooted deal leader need other a.0 b)
one_after rooted deal leader need one other (inr (has, (some, of_node, is, told))) (inr (has', (some', of_node', is', told'))) =
    is ∙ (ap Node (one_of_graph rooted.graph of_node of_node' told told') ∙ sym is')

pub part_none : (rooted : RootedShape) (deal : Deal) (leader : Seat) (trump : Trump) (side : Side) (need : ℕ) (fault : PartFault) → Shows rooted deal leader trump side need → IsPartFault rooted deal leader trump side need fault → ⊥
part_none rooted deal leader trump side need fault shows =
    none_of ((0 < need) × (root_of rooted ≡ None)) RootMissing (AfterMissing rooted deal leader trump side need) fault (not_missing rooted deal leader need shows.root)
    (none_of ((need ≡ 0) × (rooted.root ≢ None)) RootNeedless (AfterNeedless rooted deal leader trump side need) fault (not_needless rooted deal leader need shows.root)
    (none_of (rooted.graph.trump ≢ trump) RootTrump (AfterTrump rooted deal leader side need) fault (λ wrong. wrong shows.trump_is)
    (none_of (rooted.graph.side ≢ side) RootSide (AfterSide rooted deal leader need) fault (λ wrong. wrong shows.side_is)
    (after_none rooted deal leader need fault shows.root shows.steps))))

pub one_part : (rooted : RootedShape) (deal : Deal) (leader : Seat) (trump : Trump) (side : Side) (need : ℕ) (one other : PartFault) → IsPartFault rooted deal leader trump side need one → IsPartFault rooted deal leader trump side need other → one ≡ other
one_part rooted deal leader trump side need one other =
    one_of ((0 < need) × (root_of rooted ≡ None)) RootMissing (AfterMissing rooted deal leader trump side need) one other
    (one_of ((need ≡ 0) × (rooted.root ≢ None)) RootNeedless (AfterNeedless rooted deal leader trump side need) one other
    (one_of (rooted.graph.trump ≢ trump) RootTrump (AfterTrump rooted deal leader side need) one other
    (one_of (rooted.graph.side ≢ side) RootSide (AfterSide rooted deal leader need) one other
    (one_after rooted deal leader need one other))))

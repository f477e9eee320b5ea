use Rattle.std.proofs.Common.{◌≡◌, ◌≢◌, List, [], ◌∷◌, Contains, Option, None, Some, inl, inr, sym, subst}
use Rattle.std.specs.Prelude.{MatchOption}
use Rattle.std.proofs.lemmas.List.Elements.{Contains-append_right}
use Rattle.cards.specs.declared.seats.Seat.{Seat}
use Rattle.certificate_graph.specs.declared.children.Child.{Child}
use Rattle.checker.specs.Steps.{IsListed}
use Rattle.checker.proofs.ChildLaws.{listed_cases}
use Rattle.checker.proofs.SeatTests.{seats_apart}
use Rattle.certificate_play.proofs.trick_ends.+child_for.Goals as goal

-- what is found among the others, where the first child is another seat's
among_others : (first : Child) (rest : List Child) (winner : Seat) (found : Option Child) → first.winner ≢ winner → MatchOption found (IsListed rest winner → ⊥) (λ child. (child.winner ≡ winner) × Contains rest child) →
    MatchOption found (IsListed (first ∷ rest) winner → ⊥) (λ child. (child.winner ≡ winner) × Contains (first ∷ rest) child)
among_others first rest winner None apart none = λ is. elim (listed_cases first rest winner is) [
  | inl same ↦ absurd (apart same)
  | inr later ↦ none later
]
among_others first rest winner (Some child) apart (wins, listed) = (wins, Contains-append_right (first ∷ []) rest child listed)

pub returns-else-eq : goal.returns-else-eq
returns-else-eq t c =
    let child = c.in-Some.child in
    let apart = seats_apart child.winner c.args.winner c.eq.result c.eq.ensures c.if-eq.false in
    subst (λ (l : List Child). MatchOption c.child_for.result (IsListed l c.args.winner → ⊥) (λ child. (child.winner ≡ c.args.winner) × Contains l child)) (sym c.in-Some.ensures)
    (among_others child c.in-Some.rest c.args.winner c.child_for.result apart c.child_for.ensures)

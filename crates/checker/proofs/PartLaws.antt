-- What is told of a graph that is to show something.
use Rattle.std.proofs.Common.{◌≡◌, ◌≢◌, ℕ, ◌<◌, true, List, Option, None, Some, Result, Ok, Err, inl, inr, refl, sym, ◌∙◌, arith}
use Rattle.std.specs.Prelude.{MatchResult, IsErrAnd, ◌⊎◌}
use Rattle.std.specs.Option.{is_some}
use Rattle.std.proofs.lemmas.Option.{none-some}
use Rattle.cards.specs.declared.suits.Trump.{Trump}
use Rattle.cards.specs.declared.seats.Seat.{Seat}
use Rattle.cards.specs.declared.seats.Side.{Side}
use Rattle.cards.specs.Deal.{Deal}
use Rattle.certificate_graph.specs.declared.nodes.Node as nodes
use Rattle.checker.specs.declared.entry_faults.PartFault.{PartFault}
use Rattle.checker.specs.declared.entry_faults.PartFault.TheVariants.{Node}
use Rattle.checker.specs.Roots.{RootedShape, node_at, root_of}
use Rattle.checker.specs.Claims.{HasRoot}
use Rattle.checker.specs.EntryFaults.{IsRootFault, HasRootFault, IsNodesFault, IsPartFault}

-- what is right of a graph whose root is looked at
pub record HasTitle (rooted : RootedShape) (trump : Trump) (side : Side) (need : ℕ) (root : nodes.Node) : Type 0 where
  pub there : root_of rooted ≡ Some root
  pub needed : 0 < need
  pub trump_is : rooted.graph.trump ≡ trump
  pub side_is : rooted.graph.side ≡ side

-- where there is a node there is a number
pub numbered : (list : List nodes.Node) (number : Option ℕ) (root : nodes.Node) → node_at list number ≡ Some root → number ≢ None
numbered list None root there none = none-some root there
numbered list (Some number) root there none = none-some number (sym none)

pub has_number : (list : List nodes.Node) (number : Option ℕ) (root : nodes.Node) → node_at list number ≡ Some root → is_some number ≡ true
has_number list None root there = absurd (none-some root there)
has_number list (Some number) root there = refl

from_root : (rooted : RootedShape) (deal : Deal) (leader : Seat) (trump : Trump) (side : Side) (need : ℕ) (root : nodes.Node) (fault : PartFault) → HasTitle rooted trump side need root →
    HasRootFault rooted deal leader need fault ⊎ (HasRoot rooted deal leader need × IsNodesFault rooted fault) → IsPartFault rooted deal leader trump side need fault
from_root rooted deal leader trump side need root fault title told =
    inr (
      (λ (wrong : (0 < need) × (root_of rooted ≡ None)). none-some root (sym wrong.1 ∙ title.there)),
      inr (
        (λ (wrong : (need ≡ 0) × (rooted.root ≢ None)). absurd (omega (arith, wrong.0, title.needed))),
        inr (
          (λ (wrong : rooted.graph.trump ≢ trump). wrong title.trump_is),
          inr ((λ (wrong : rooted.graph.side ≢ side). wrong title.side_is), told),
        ),
      ),
    )

-- a fault of the root
pub root_told : (rooted : RootedShape) (deal : Deal) (leader : Seat) (trump : Trump) (side : Side) (need : ℕ) (root : nodes.Node) (fault : PartFault) → HasTitle rooted trump side need root →
    IsRootFault root deal leader need fault → IsPartFault rooted deal leader trump side need fault
root_told rooted deal leader trump side need root fault title told = from_root rooted deal leader trump side need root fault title (inl (root, title.there, told))

-- the exit of a `?`
pub err_out : {A E : Type 0} (P : A → Type 0) (F : E → Type 0) (answer : Result A E) (Q : E → Type 0) → IsErrAnd answer Q → ((fault : E) → Q fault → F fault) → MatchResult answer P F
err_out P F (Ok done) Q is told = absurd is
err_out P F (Err fault) Q is told = told fault is

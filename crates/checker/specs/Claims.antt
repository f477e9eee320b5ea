-- What graphs show: a side wins some tricks from a layout, and both sides together show the value of a contract on it.
use Rattle.std.specs.Prelude.{◌≡◌, ◌≢◌, ℕ, zero, suc, ◌-◌, ◌≤◌, None, Some}
use Rattle.cards.specs.declared.suits.Trump.{Trump}
use Rattle.cards.specs.declared.seats.Seat.{Seat}
use Rattle.cards.specs.declared.seats.Side.{Side}
use Rattle.cards.specs.Seats.{next_of, side_of, other_side}
use Rattle.cards.specs.Deal.{Deal, size_of}
use Rattle.patterns.specs.Holders.{Matches}
use Rattle.certificate_graph.specs.declared.nodes.Node.{Node}
use Rattle.certificate_graph.specs.Graphs.{IsGraph}
use Rattle.checker.specs.declared.entries.Shown.{Shown}
use Rattle.checker.specs.Steps.{StepsHold}
use Rattle.checker.specs.Roots.{RootedShape, root_of}

-- the node claims `need` tricks from the deal, with this seat to lead
pub record IsRootOf (root : Node) (deal : Deal) (leader : Seat) (need : ℕ) : Type 0 where
  pub lead : root.lead ≡ leader
  pub need_is : root.need ≡ need
  pub pattern : Matches root.pattern deal

-- The root claims `need` tricks. If no tricks are needed there is no root.
abbrev pub HasRoot : RootedShape → Deal → Seat → ℕ → Type 0
HasRoot rooted deal leader zero = rooted.root ≡ None
HasRoot rooted deal leader (suc need) =
    (root : Node) × (root_of rooted ≡ Some root) × IsRootOf root deal leader (suc need)

-- The graph shows that the side wins `need` tricks from the deal, with this seat to lead: its root claims them, and all
-- steps hold. Without a root no step has to hold.
pub record Shows (rooted : RootedShape) (deal : Deal) (leader : Seat) (trump : Trump) (side : Side) (need : ℕ)
    : Type 0 where
  pub trump_is : rooted.graph.trump ≡ trump
  pub side_is : rooted.graph.side ≡ side
  pub root : HasRoot rooted deal leader need
  pub steps : rooted.root ≢ None → StepsHold rooted.graph

-- The graphs show that declarer's side wins `tricks` tricks, and the defenders the others. The seat at declarer's left
-- leads (Law 41A).
pub record ShowValue (deal : Deal) (declarer : Seat) (trump : Trump) (tricks : ℕ) (declarers defenders : RootedShape)
    : Type 0 where
  pub within : tricks ≤ size_of deal
  pub declarers_win : Shows declarers deal (next_of declarer) trump (side_of declarer) tricks
  pub defenders_win : Shows defenders deal (next_of declarer) trump (other_side (side_of declarer))
      (size_of deal - tricks)

-- some graphs show this value
pub record IsShown (shown : Shown) : Type 0 where
  pub declarers : RootedShape
  pub defenders : RootedShape
  pub declarers_are : IsGraph declarers.graph
  pub defenders_are : IsGraph defenders.graph
  pub show : ShowValue shown.layout shown.declarer shown.trump shown.k declarers defenders

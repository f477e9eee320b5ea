-- The answer for a declarer, from what the declarers of a denomination share.
use Rattle.std.specs.Prelude.{◌≡◌, ◌⊎◌, ℕ, Bool, List, [], ◌∷◌, Option, None, Some, find, nat_eq}
use Rattle.cards.specs.Deal.{Deal}
use Rattle.cards.specs.declared.seats.Seat.{Seat}
use Rattle.cards.specs.declared.seats.Side.{Side}
use Rattle.cards.specs.declared.seats.Side.TheVariants.{NorthSouth, EastWest}
use Rattle.cards.specs.declared.suits.Trump.{Trump}
use Rattle.cards.specs.Seats.{seat_number, side_of, other_side}
use Rattle.certificate_graph.specs.declared.answers.Answer.{Answer}
use Rattle.certificate_graph.specs.Graphs.{GraphShape}
use Rattle.certificate_graph.specs.Extracts.{IsExtract, IsRootIn}
use Rattle.certificate_graph.specs.Solvers.{MayFind}
use Rattle.certificate_graph.specs.declared.bundles.Bundle.{Bundle}
use Rattle.certificate_graph.specs.declared.bundles.Claim.{Claim}

-- whether a claim is for this declarer
abbrev pub is_for : Seat → Claim → Bool
is_for declarer claim = nat_eq (seat_number claim.declarer) (seat_number declarer)

-- the first claim for a declarer
abbrev pub claim_for : List Claim → Seat → Option Claim
claim_for claims declarer = find (is_for declarer) claims

-- the graph of a side
abbrev pub graph_of : Bundle → Side → GraphShape
graph_of bundle NorthSouth = bundle.ns.value
graph_of bundle EastWest = bundle.ew.value

-- the roots of the claim are nodes of the graphs
abbrev pub HasRoots : Bundle → Claim → Type 0
HasRoots bundle claim =
    IsRootIn (graph_of bundle (side_of claim.declarer)).nodes claim.declarer_root
    × IsRootIn (graph_of bundle (other_side (side_of claim.declarer))).nodes claim.defenders_root

-- the tricks that are claimed, with the graphs that begin with the roots
pub record IsAnswerTo (bundle : Bundle) (claim : Claim) (answer : Answer) : Type 0 where
  pub k : answer.k ≡ claim.k
  pub declarer : IsExtract (graph_of bundle (side_of claim.declarer)) claim.declarer_root answer.declarer
  pub defenders : IsExtract (graph_of bundle (other_side (side_of claim.declarer))) claim.defenders_root
      answer.defenders

-- the answer of the first claim for a declarer; there is none where no claim is for that one, or where a root is no
-- node
abbrev pub IsAnswerFor : Bundle → Seat → Option Answer → Type 0
IsAnswerFor bundle declarer (Some answer) =
    (claim : Claim) × (claim_for bundle.claims.items declarer ≡ Some claim) × HasRoots bundle claim
    × IsAnswerTo bundle claim answer
IsAnswerFor bundle declarer None =
    (claim_for bundle.claims.items declarer ≡ None)
    ⊎ ((claim : Claim) × (claim_for bundle.claims.items declarer ≡ Some claim) × (HasRoots bundle claim → ⊥))

-- the answer of what was found, for a declarer; there is none where nothing was found
abbrev pub IsAnswerOf : Option Bundle → Seat → Option Answer → Type 0
IsAnswerOf None declarer answer = answer ≡ None
IsAnswerOf (Some bundle) declarer answer = IsAnswerFor bundle declarer answer

-- what may be answered for one declarer: the answer of what a solver may find for that one alone
abbrev pub MayAnswer : MayFind → Deal → Seat → Trump → ℕ → Option Answer → Type 0
MayAnswer may_find deal declarer trump budget answer =
    (found : Option Bundle) × may_find deal (declarer ∷ []) trump budget found × IsAnswerOf found declarer answer

-- The branch by which a card of the opponents goes on: its own, or that of a higher card in a run.
use Rattle.std.specs.Prelude.{◌≡◌, ◌⊎◌}
use Rattle.cards.specs.declared.seats.Seat.{Seat}
use Rattle.patterns.specs.Shapes.{Shape}
use Rattle.pattern_step.specs.declared.pat_cards.PatCard.{PatCard}
use Rattle.pattern_step.specs.Runs.{IsLowerInRun}
use Rattle.certificate_graph.specs.Trees.{TrickTree, Branches}
use Rattle.checker.specs.Places.{HasBranch}

-- this place stands below the branch of this higher card, in a run of the seat
pub record GoesAsHigher (shape : Shape) (seat : Seat) (branches : Branches) (card higher : PatCard) (below : TrickTree)
    : Type 0 where
  pub run : IsLowerInRun shape seat card higher
  pub branch : HasBranch branches higher below

-- this place stands below the branch of the card, or of such a higher one
pub record GoesBy (shape : Shape) (seat : Seat) (branches : Branches) (card taken : PatCard) (below : TrickTree)
    : Type 0 where
  pub alike : (card ≡ taken) ⊎ IsLowerInRun shape seat card taken
  pub branch : HasBranch branches taken below

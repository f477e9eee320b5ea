-- What solvers may find.
use Rattle.std.specs.Prelude.{ℕ, List, Option}
use Rattle.cards.specs.Deal.{Deal}
use Rattle.cards.specs.declared.pack.Card.{Card}
use Rattle.cards.specs.declared.seats.Seat.{Seat}
use Rattle.cards.specs.declared.suits.Trump.{Trump}
use Rattle.certificate_graph.specs.declared.bundles.Bundle.{Bundle}
use Rattle.certificate_graph.specs.declared.card_claims.CardBundle.{CardBundle}

-- what a solver may find for a deal, declarers and a denomination within a budget
abbrev pub MayFind : Type 1
MayFind = Deal → List Seat → Trump → ℕ → Option Bundle → Type 0

-- what it may find for a deal, leaders, a denomination and cards played, within a budget
abbrev pub MayFindCards : Type 1
MayFindCards = Deal → List Seat → Trump → List Card → ℕ → Option CardBundle → Type 0

-- What solvers may find of a recorded play.
use Rattle.std.specs.Prelude.{ℕ, List, Option}
use Rattle.cards.specs.Deal.{Deal}
use Rattle.cards.specs.declared.pack.Card.{Card}
use Rattle.cards.specs.declared.seats.Seat.{Seat}
use Rattle.cards.specs.declared.suits.Trump.{Trump}
use Rattle.play_claims.specs.declared.claims.PlayBundle.{PlayBundle}

-- What a solver may find for a deal, a leader, a denomination and the cards of a play, within a budget. It finds
-- nothing if memory runs out.
abbrev pub MayFindPlay : Type 1
MayFindPlay = Deal → Seat → Trump → List Card → ℕ → Option PlayBundle → Type 0

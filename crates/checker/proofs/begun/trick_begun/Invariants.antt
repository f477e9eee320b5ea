-- the cards so far are played, and they begin a line
use Rattle.std.proofs.Common.{◌≡◌, take}
use Rattle.checker.specs.Steps.{BeginLine}
use Rattle.checker.proofs.begun.trick_begun.Given as goal

abbrev pub invariant-loop-card : goal.invariant-loop-card
invariant-loop-card l = (l.played ≡ take l.card-index l.cards) × BeginLine l.node l.played

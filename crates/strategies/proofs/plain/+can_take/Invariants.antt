-- The cards that are left to be played go down; none of the cards tried so far helps the side whose turn it is.
use Rattle.std.proofs.Common.{◌-◌, length, Contains, take}
use Rattle.cards.specs.declared.pack.Card.{Card}
use Rattle.play_rules.specs.Legal.{cards_in_play}
use Rattle.strategies.proofs.SearchProofs.{IsNoHelp}
use Rattle.strategies.proofs.plain.+can_take.Given as goal

abbrev pub decreases-can_take : goal.decreases-can_take
decreases-can_take l = cards_in_play l.table.now.opening - length l.table.now.history

abbrev pub invariant-loop-card : goal.invariant-loop-card
invariant-loop-card l = (card : Card) → Contains (take l.card-index l.card-items) card → IsNoHelp l.table l.wanted card

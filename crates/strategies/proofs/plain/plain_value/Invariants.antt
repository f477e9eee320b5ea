-- North and South can win the tricks tried so far.
use Rattle.cards.specs.declared.seats.Side.TheVariants.{NorthSouth}
use Rattle.strategies.specs.Strategies.{CanWin}
use Rattle.strategies.proofs.plain.plain_value.Given as goal

abbrev pub invariant-loop-value : goal.invariant-loop-value
invariant-loop-value l = CanWin l.table.opening NorthSouth l.value l.table.history

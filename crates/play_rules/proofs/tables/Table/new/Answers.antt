use Rattle.play_rules.proofs.PositionLaws.{Summarizes-new}
use Rattle.play_rules.proofs.tables.Table.new.Goals as goal

pub invariant_of-result : goal.invariant_of-result
invariant_of-result c = rw (c.new.ensures, c.new-2.ensures, c.holders.ensures) (Summarizes-new _ c.invariant.ensures)

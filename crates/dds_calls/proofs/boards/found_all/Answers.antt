-- The values that are found are those of the position that was read.
use Rattle.std.proofs.Common.{sym, subst}
use Rattle.play_rules.specs.Position.{Position}
use Rattle.dds_calls.specs.Readings.{IsRead}
use Rattle.dds_calls.proofs.boards.found_all.Goals as goal

pub returns-in_default : goal.returns-in_default
returns-in_default c = ((c.args.trick, c.requires.is_position), c.requires.clear)

pub told_in-requires : goal.told_in-requires
told_in-requires c =
    let found = rw c.in-Ok-Some.field-0-is at c.in-Ok-Some.ensures in
    subst (λ (p : Position). IsRead c.args.board.now c.args.ask p) (sym found.shown.position_is) c.requires

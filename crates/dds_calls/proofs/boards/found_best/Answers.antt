-- The cards that are found are of the position that was read.
use Rattle.std.proofs.Common.{sym, subst}
use Rattle.play_rules.specs.Position.{Position}
use Rattle.dds_calls.specs.BoardAnswers.{HaveGroups}
use Rattle.dds_calls.specs.Readings.{IsRead}
use Rattle.dds_calls.proofs.boards.found_best.Goals as goal

pub returns-in_default : goal.returns-in_default
returns-in_default c = ((c.args.trick, c.requires.read.is_position), c.requires.read.clear)

pub told_best-requires : goal.told_best-requires
told_best-requires c =
    let found = rw c.in-Ok-Some.field-0-is at c.in-Ok-Some.ensures in
    record {
      read = subst (λ (p : Position). IsRead c.args.board.now c.args.ask p) (sym found.shown.position_is) c.requires.read;
      one = c.requires.one;
      groups = subst (λ (p : Position). HaveGroups p) (sym found.shown.position_is) c.requires.groups;
    }

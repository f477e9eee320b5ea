use Rattle.std.proofs.Common.{sym, ◌∙◌}
use Rattle.due_rows.proofs.TreeLaws.{none_below, left_is_first, right_is_first, even_level}
use Rattle.due_rows.proofs.nodes.+first_due_node.Goals as goal

pub returns-in_err-parent : goal.returns-in_err-parent
returns-in_err-parent t c =
    rw c.from_residual.ensures
    (none_below c.args.now c.args.nodes.now c.requires.joined c.args.from c.args.end c.requires.some (even_level c.args.end c.args.above c.requires.level) c.requires.within (sym c.is_due.ensures ∙ c.if-is_due.false) c.in_err-parent.ensures)

pub returns-then-is_due-2 : goal.returns-then-is_due-2
returns-then-is_due-2 t c =
    left_is_first c.args.now c.args.nodes.now c.requires.joined c.args.from c.args.end c.in_ok-parent.parent c.requires.some (even_level c.args.end c.args.above c.requires.level) c.requires.within (sym c.is_due.ensures ∙ c.if-is_due.false) c.in_ok-parent.ensures (sym c.is_due-2.ensures ∙ c.if-is_due-2.true)

pub returns-else-is_due-2 : goal.returns-else-is_due-2
returns-else-is_due-2 t c =
    right_is_first c.args.now c.args.nodes.now c.requires.joined c.args.from c.args.end c.in_ok-parent.parent c.requires.some (even_level c.args.end c.args.above c.requires.level) c.requires.within (sym c.is_due.ensures ∙ c.if-is_due.false) c.in_ok-parent.ensures (sym c.is_due-2.ensures ∙ c.if-is_due-2.false)

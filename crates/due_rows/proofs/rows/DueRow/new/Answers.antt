use Rattle.std.proofs.Common.{◌∙◌, ap, take, drop, arith, rules}
use Rattle.due_rows.proofs.TreeLaws.{all_none}
use Rattle.due_rows.proofs.rows.DueRow.new.Goals as goal

pub returns : goal.returns
returns c =
    ap (λ nodes. take c.args.count (drop c.loop-half.half nodes)) (c.in_ok-nodes.ensures.items_if_clones_equal (search rules))
    ∙ all_none c.loop-half.half c.args.count (omega arith)

use Rattle.std.proofs.Common.{◌∙◌, ap, ◌<◌, drop, arith, set}
use Rattle.std.proofs.lemmas.List.{length-take}
use Rattle.due_rows.proofs.TreeLaws.{leaves_after, others_after}
use Rattle.due_rows.proofs.rows.DueRow.set.Goals as goal

pub invariant_of-self : goal.invariant_of-self
invariant_of-self c =
    let row = c.self.inside in
    let within = rw (← c.self.view_is) at c.requires in
    let below : c.args.place < row.count = omega (arith, within, length-take row.count (drop row.half row.nodes.items)) in
    record {
      sized = c.put.ensures.sized;
      doubled = c.self.invariant.doubled;
      counted = c.self.invariant.counted;
      small = c.self.invariant.small;
      joined = c.put.ensures.joined;
      others = λ node l. others_after row.nodes.items c.put.new.nodes.items row.half c.args.place node c.args.moment c.put.ensures.leaves (omega arith) ∙ c.self.invariant.others node l;
    }

pub returns : goal.returns
returns c =
    let row = c.self.inside in
    leaves_after row.nodes.items c.put.new.nodes.items row.half row.count c.args.place c.args.moment c.put.ensures.leaves ∙ ap (λ leaves. set leaves c.args.place c.args.moment) c.self.view_is

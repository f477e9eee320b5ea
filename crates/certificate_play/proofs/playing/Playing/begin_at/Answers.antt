use Rattle.std.proofs.Common.{◌≡◌, List, get_or, ◌∙◌, ap, arith}
use Rattle.std.proofs.lemmas.Option.{get_or_from_slice_get}
use Rattle.certificate_graph.specs.declared.nodes.Node.{Node}
use Rattle.checker.specs.Roots.{RootedShape}
use Rattle.certificate_play.proofs.PromiseLaws.{on_course_first}
use Rattle.certificate_play.proofs.StepLaws.{root_at, no_root, begun_kept}
use Rattle.certificate_play.proofs.playing.Playing.begin_at.Goals as goal
use Rattle.certificate_play.proofs.playing.Playing.begin_at.Goals.{in-None, in-Some}

pub invariant_of-result : goal.invariant_of-result
invariant_of-result c =
    let graph = c.args.graph.now in
    let rooted : RootedShape = record { graph = graph; root = c.args.root } in
    let deal = c.args.layout in
    let leader = c.args.leader in
    rw c.side.ensures
    (elim c.match-root.branch [
      | in-None w ↦ rw w.step-is (on_course_first c.new.result _ graph.side c.args.promised c.new-2.result.items _ (rw c.trump.ensures at c.new.ensures.opening) c.new.ensures.history c.new.ensures.reached c.new-2.ensures
          (omega (arith, no_root rooted deal leader graph.trump graph.side c.args.promised c.requires w.in-None.is)))
      | in-Some w ↦ (let root = root_at rooted deal leader graph.trump graph.side c.args.promised w.in-Some.number c.requires w.in-Some.is in
          let next = w.index-nodes-number.result in
          let node : next ≡ root.node = w.index-nodes-number.is ∙ (ap (λ (l : List Node). get_or l w.in-Some.number next) w.nodes.ensures ∙ get_or_from_slice_get graph.nodes w.in-Some.number root.node next root.there) in
          rw w.step-is (on_course_first c.new.result _ graph.side c.args.promised c.new-2.result.items _ (rw c.trump.ensures at c.new.ensures.opening) c.new.ensures.history c.new.ensures.reached c.new-2.ensures
          (begun_kept w.first.result graph deal leader c.args.promised w.in-Some.number c.args.root root c.invariant.ensures c.invariant-2.ensures
          (record { graph_is = w.first.ensures.graph; node_is = w.first.ensures.node ∙ node; place_is = w.first.ensures.place ∙ ap (λ (n : Node). n.tree) node; start_is = w.first.ensures.start ∙ w.holders.ensures; trick_is = w.first.ensures.trick; line_is = w.first.ensures.line }))))
    ])

use Rattle.std.proofs.Common.{◌≡◌, ◌<◌, ◌+◌, ◌++◌, ◌∷◌, [], List, length, All, Some, sym, ◌∙◌, ap, subst, arith, length-append}
use Rattle.std.specs.Prelude.{slice_get, slice_index_or}
use Rattle.std.proofs.lemmas.List.Elements.{All-push, All-get_or}
use Rattle.std.proofs.lemmas.Option.{slice_get-get_or}
use Rattle.certificate_graph.specs.declared.nodes.Node.{Node}
use Rattle.certificate_graph.specs.Extracts.{exchanged, rename_node, AreExchanged}
use Rattle.certificate_graph.specs.Graphs.{IsNode}
use Rattle.certificate_graph.proofs.ExtractLemmas.{AreThere, exchanged_below, node_renamed, there_more, all_there}
use Rattle.certificate_graph.proofs.extracting.exchange_nodes.Goals as goal

pub loop-number-init : goal.loop-number-init
loop-number-init c =
    let none : length c.in_ok-other.other.items ≡ 0 = ap length c.in_ok-other.ensures.items in
    record {
      as_many = none;
      there = λ number node within at. absurd (omega (arith, within));
      each = λ number node within. absurd (omega (arith, within, none));
    }

pub loop-number-preserved : goal.loop-number-preserved
loop-number-preserved c =
    let inv = c.loop-number.invariant in
    let root = c.args.root in
    let nodes = c.nodes-nodes.result.now in
    let other = c.loop-number.other.items in
    let node = c.index-nodes-from.result in
    let count : length nodes ≡ length c.args.graph.now.nodes = ap length c.nodes-nodes.ensures in
    let is : root < length nodes = omega (arith, c.requires, count) in
    let room : length other < length nodes = omega (arith, inv.as_many) in
    let from : c.exchanged-from.result ≡ exchanged root (length other) = c.exchanged-from.ensures ∙ ap (exchanged root) (sym inv.as_many) in
    let within = exchanged_below root (length other) (length nodes) is room in
    let at : slice_get nodes (exchanged root (length other)) ≡ Some node =
    slice_get-get_or nodes (exchanged root (length other)) node within
    ∙ ap Some (ap (λ n. slice_index_or nodes n node) (sym from) ∙ sym c.index-nodes-from.is) in
    let fine : IsNode (length nodes) node = subst (λ (one : Node). IsNode (length nodes) one)
    (ap (λ n. slice_index_or nodes n node) (sym from) ∙ sym c.index-nodes-from.is)
    (All-get_or (IsNode (length nodes)) nodes (exchanged root (length other)) node within
    (subst (λ (l : List Node). All (IsNode (length l)) l) (sym c.nodes-nodes.ensures) c.invariant.ensures.each)) in
    let pushed : c.push.new.self.items ≡ other ++ rename_node (exchanged root) node ∷ [] =
    c.in_ok-push.ensures.items ∙ ap (λ n. other ++ n ∷ []) c.in_ok-rename_node.ensures in
    rw pushed (record {
      as_many = omega (arith, length-append other (rename_node (exchanged root) node ∷ []), inv.as_many);
      there = subst (λ n. AreThere root nodes n (other ++ rename_node (exchanged root) node ∷ [])) (ap (λ n. n + 1) inv.as_many)
          (there_more root nodes other is node room at (subst (λ n. AreThere root nodes n other) (sym inv.as_many) inv.there));
      each = All-push (IsNode (length nodes)) other (rename_node (exchanged root) node) inv.each
          (node_renamed (exchanged root) (length nodes) (λ n below. exchanged_below root n (length nodes) is below) node fine);
    })

pub returns-clause-exchanged : goal.returns-clause-exchanged
returns-clause-exchanged c =
    let inv = c.loop-number.invariant in
    let root = c.args.root in
    let nodes = c.nodes-nodes.result.now in
    let other = c.loop-number.other.items in
    let all = c.args.graph.now.nodes in
    let same : nodes ≡ all = c.nodes-nodes.ensures in
    let count : length nodes ≡ length all = ap length same in
    let ended : c.loop-number.number ≡ length nodes = omega arith in
    subst (λ (l : List Node). AreExchanged root l other) same
    (all_there root nodes other (omega (arith, c.requires, count)) (inv.as_many ∙ ended)
    (subst (λ n. AreThere root nodes n other) ended inv.there))

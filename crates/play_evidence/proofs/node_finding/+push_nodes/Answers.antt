use Rattle.std.proofs.Common.{refl, sym, ◌∙◌, arith}
use Rattle.card_evidence.proofs.ClaimLemmas.{unless_err}
use Rattle.certificate_graph.specs.Graphs.{greatest_count}
use Rattle.certificate_graph.specs.Texts.{node_text, nodes_text}
use Rattle.certificate_graph.proofs.OneNode.{one_node}
use Rattle.certificate_graph.proofs.OneAnswer.{node_form}
use Rattle.play_evidence.specs.Sections.{IsBegun}
use Rattle.play_evidence.proofs.ClaimLemmas.{none_added, first_lacks, first_added}
use Rattle.play_evidence.proofs.node_finding.+push_nodes.Goals as goal

pub returns-then-count-eq0 : goal.returns-then-count-eq0
returns-then-count-eq0 t c =
    none_added IsBegun nodes_text node_text (λ rest. refl) (λ x more rest. refl) c.args.count c.args.text.now c.args.nodes.now.items c.args.text c.if-count-eq0.true refl

pub returns-in_default : goal.returns-in_default
returns-in_default t c =
    let none = rw c.in_default.is at c.in_ok-node.ensures in
    first_lacks IsBegun nodes_text node_text (λ rest. refl) (λ x more rest. refl) c.args.count c.args.text.now c.args.nodes.now.items c.args.nodes.now.items (omega (arith, c.if-count-eq0.false))
    (λ node rest is. none node rest is)

pub returns : goal.returns
returns t c =
    let read = rw c.in-Some.is at c.in_ok-node.ensures in
    unless_err c.push_nodes.result
    (λ r adds. first_added IsBegun nodes_text node_text (λ rest. refl) (λ x more rest. refl) c.args.count c.args.text.now c.in-Some.rest.now _ _ _ c.in-Some.node r
    (omega (arith, c.if-count-eq0.false)) c.in_ok-push.ensures.items
    (λ node rest is e. one_node c.in-Some.node node c.in-Some.rest.now rest (node_form greatest_count c.in-Some.node (omega arith) read.0) (node_form greatest_count node (omega arith) is) (sym read.1 ∙ e)) adds)
    c.push_nodes.ensures

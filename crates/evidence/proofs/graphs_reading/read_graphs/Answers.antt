use Rattle.std.proofs.Common.{◌+◌, ◌++◌, ◌∷◌, sym, ◌∙◌, ap, drop}
use Rattle.certificate_graph.specs.Texts.{graph_text}
use Rattle.cards.proofs.DeviceLemmas.{take-drop_rest}
use Rattle.evidence.proofs.GraphLines.{no_gap_found, gap_parts, front_is, back_is}
use Rattle.evidence.proofs.graphs_reading.read_graphs.Goals as goal

pub returns-in_default : goal.returns-in_default
returns-in_default c = λ ns ew p q e. no_gap_found c.args.text.now c.in_default.ensures ns ew p e

pub returns-in_default-2 : goal.returns-in_default-2
returns-in_default-2 c = λ ns ew p q e.
    let text = c.args.text.now in
    let place = c.in-Some.place in
    let none = rw c.in_default-2.is at c.in_ok-ns.ensures in
    none ns p (front_is text place c.in-Some.ensures.0 c.in-Some.ensures.1 ns ew p e)

pub returns-in_default-3 : goal.returns-in_default-3
returns-in_default-3 c = λ ns ew p q e.
    let text = c.args.text.now in
    let place = c.in-Some.place in
    let none = rw c.in_default-3.is at c.in_ok-ew.ensures in
    none ew q (take-drop_rest text (place + 2) ∙ back_is text place c.in-Some.ensures.0 c.in-Some.ensures.1 ns ew p e)

pub returns : goal.returns
returns c =
    let text = c.args.text.now in
    let place = c.in-Some.place in
    let ns = rw c.in-Some-2.is at c.in_ok-ns.ensures in
    let ew = rw c.in-Some-3.is at c.in_ok-ew.ensures in (
      ns.0,
      ew.0,
      gap_parts text place c.in-Some.ensures.0 c.in-Some.ensures.1
          ∙ (ap (λ t. t ++ (10 ∷ drop (place + 2) text)) ns.1 ∙ ap (λ t. graph_text c.in-Some-2.ns.value ++ (10 ∷ t)) (sym (take-drop_rest text (place + 2)) ∙ ew.1)),
    )

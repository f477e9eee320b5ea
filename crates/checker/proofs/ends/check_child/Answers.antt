use Rattle.std.proofs.Common.{◌≡◌, ◌<◌, List, length, get_or, Some, inl, inr, refl, arith}
use Rattle.std.specs.Prelude.{slice_get}
use Rattle.std.proofs.lemmas.Option.{slice_get_read}
use Rattle.certificate_graph.specs.declared.children.Child.{Child}
use Rattle.certificate_graph.specs.declared.nodes.Node.{Node}
use Rattle.checker.specs.Steps.{need_after}
use Rattle.patterns.proofs.SeatLaws.{not_told}
use Rattle.checker.proofs.SeatTests.{seats_differ, seats_agree}
use Rattle.checker.proofs.ChildLaws.{right_lead, right_need, wrong_pattern}
use Rattle.checker.proofs.ends.check_child.Goals as goal

-- the node that a child names
named : (nodes read : List Node) (child : Child) (next : Node) → child.number < length nodes → read ≡ nodes →
    next ≡ get_or read child.number next → slice_get nodes child.number ≡ Some next
named nodes read child next below same is = slice_get_read nodes (length nodes) child.number next refl below (rw (← same) is)

pub returns-then-ne : goal.returns-then-ne
returns-then-ne c =
    let child = c.args.child in
    let next = c.index-nodes-child.result in
    let there = named c.args.graph.now.nodes c.nodes.result.now child next c.requires.named c.nodes.ensures c.index-nodes-child.is in
    λ trick left. inl ((next, there, seats_differ next.lead child.winner c.ne.result c.ne.ensures c.if-ne.true), refl)

pub returns-then-next-need_after : goal.returns-then-next-need_after
returns-then-next-need_after c =
    let graph = c.args.graph.now in
    let node = c.args.node.now in
    let child = c.args.child in
    let next = c.index-nodes-child.result in
    let there = named graph.nodes c.nodes.result.now child next c.requires.named c.nodes.ensures c.index-nodes-child.is in
    let leads = seats_agree next.lead child.winner c.ne.result c.ne.ensures c.if-ne.false in
    let needs : c.need_after.result ≡ need_after graph.side node.need child.winner = (rw c.side.ensures at c.need_after.ensures) in
    λ trick left. inr (right_lead graph child next there leads, inl ((next, there, omega (arith, needs, c.if-next-need_after.true)), refl))

pub returns-then-not-covers : goal.returns-then-not-covers
returns-then-not-covers c =
    let graph = c.args.graph.now in
    let node = c.args.node.now in
    let child = c.args.child in
    let next = c.index-nodes-child.result in
    let there = named graph.nodes c.nodes.result.now child next c.requires.named c.nodes.ensures c.index-nodes-child.is in
    let leads = seats_agree next.lead child.winner c.ne.result c.ne.ensures c.if-ne.false in
    let needs : c.need_after.result ≡ need_after graph.side node.need child.winner = (rw c.side.ensures at c.need_after.ensures) in
    λ trick left. inr (
      right_lead graph child next there leads,
      inr (
        right_need graph node child next there (omega (arith, needs, c.if-next-need_after.false)),
        inl (wrong_pattern graph node trick child next c.args.left.now there left (not_told (rw c.version.ensures at c.covers.ensures) c.if-not-covers.true), refl),
      ),
    )

pub returns : goal.returns
returns c =
    let graph = c.args.graph.now in
    let node = c.args.node.now in
    let child = c.args.child in
    let next = c.index-nodes-child.result in
    let there = named graph.nodes c.nodes.result.now child next c.requires.named c.nodes.ensures c.index-nodes-child.is in
    let leads = seats_agree next.lead child.winner c.ne.result c.ne.ensures c.if-ne.false in
    let needs : c.need_after.result ≡ need_after graph.side node.need child.winner = (rw c.side.ensures at c.need_after.ensures) in
    λ trick left. (next, there, record { lead = leads; need = omega (arith, needs, c.if-next-need_after.false); pattern = (c.args.left.now, left, (rw c.version.ensures at c.covers.ensures).0 c.if-not-covers.false) })

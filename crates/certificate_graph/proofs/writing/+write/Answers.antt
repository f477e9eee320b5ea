use Rattle.std.proofs.Common.{◌≡◌, [], ◌++◌, refl, sym, ◌∙◌, ap, append_assoc}
use Rattle.pattern_step.specs.declared.pat_cards.PatCard.{PatCard}
use Rattle.certificate_graph.specs.Trees.{TrickTree, Branches, Branch}
use Rattle.certificate_graph.specs.Texts.{card_text, tree_text, branches_text}
use Rattle.certificate_graph.proofs.TextParts.{card-cut, tree-cut}
use Rattle.cards.proofs.WriteLemmas.{AddsBeginning-then, Writes-then}
use Rattle.certificate_graph.proofs.WriteLemmas.{writes_same, stops_within}
use Rattle.certificate_graph.proofs.writing.+write.Goals as goal

pub write_tree-returns-in_ok-write_all-in-Own : goal.write_tree-returns-in_ok-write_all-in-Own
write_tree-returns-in_ok-write_all-in-Own g t c =
    let done = c.write_tree.result in
    let card = c.in-Own.card in
    let below = tree_text c.in-Own.below [] in
    writes_same _ _ done (rw (← c.in-Own.ensures) (ap (λ s. s ++ below) c.card_bytes.ensures ∙ sym (card-cut card [] below)))
    (Writes-then done _ _ c.in_ok-write_all-in-Own.ensures c.write_tree.ensures)

pub write_tree-returns-in_ok-write_all-in-Reply : goal.write_tree-returns-in_ok-write_all-in-Reply
write_tree-returns-in_ok-write_all-in-Reply g t c =
    let done = c.write_branches.result in
    writes_same _ _ done (rw (← c.in-Reply.ensures) refl) (Writes-then done _ _ c.in_ok-write_all-in-Reply.ensures c.write_branches.ensures)

pub write_tree-returns-in-Leaf : goal.write_tree-returns-in-Leaf
write_tree-returns-in-Leaf g t c = writes_same _ _ c.write_children.result (rw (← c.in-Leaf.ensures) refl) c.write_children.ensures

-- a card, what follows it, and the branches after it
parts : (card : PatCard) (below : TrickTree) (more : Branches) → card_text card [] ++ (tree_text below [] ++ branches_text more []) ≡ branches_text (Branch card below more) []
parts card below more =
    ap (λ s. card_text card [] ++ s) (sym (tree-cut below [] (branches_text more [])))
    ∙ sym (card-cut card [] (tree_text below (branches_text more [])))

pub write_branches-returns-in_err-write_tree-in-Some : goal.write_branches-returns-in_err-write_tree-in-Some
write_branches-returns-in_err-write_tree-in-Some g t c =
    let below = tree_text c.in-Some.below [] in
    let more = branches_text c.in-Some.more [] in
    stops_within _ _ c.from_residual-in_err-write_tree-in-Some.result _ more c.from_residual-in_err-write_tree-in-Some.ensures.1
    (rw c.in-Some.ensures
    (append_assoc c.card_bytes.result below more
    ∙ (ap (λ s. s ++ (below ++ more)) c.card_bytes.ensures ∙ parts c.in-Some.card c.in-Some.below c.in-Some.more)))
    (AddsBeginning-then c.in_ok-write_all-in-Some.ensures c.in_err-write_tree-in-Some.ensures)

pub write_branches-returns-in_ok-write_tree-in-Some : goal.write_branches-returns-in_ok-write_tree-in-Some
write_branches-returns-in_ok-write_tree-in-Some g t c =
    let done = c.write_branches.result in
    let below = tree_text c.in-Some.below [] in
    let more = branches_text c.in-Some.more [] in
    writes_same _ _ done
    (rw c.in-Some.ensures
    (ap (λ s. s ++ (below ++ more)) c.card_bytes.ensures ∙ parts c.in-Some.card c.in-Some.below c.in-Some.more))
    (Writes-then done _ _ c.in_ok-write_all-in-Some.ensures (Writes-then done _ _ c.in_ok-write_tree-in-Some.ensures c.write_branches.ensures))

pub write_tree-returns-in_err-write_all-in-Own : goal.write_tree-returns-in_err-write_all-in-Own
write_tree-returns-in_err-write_all-in-Own g t c =
    let end = c.from_residual in
    let below = tree_text c.in-Own.below [] in
    stops_within _ _ end.result _ below end.ensures.1
    (rw (← c.in-Own.ensures) (ap (λ s. s ++ below) c.card_bytes.ensures ∙ sym (card-cut c.in-Own.card [] below)))
    c.in_err-write_all-in-Own.ensures

pub write_tree-returns-in_err-write_all-in-Reply : goal.write_tree-returns-in_err-write_all-in-Reply
write_tree-returns-in_err-write_all-in-Reply g t c =
    let end = c.from_residual-in_err-write_all-in-Reply in
    stops_within _ _ end.result _ (branches_text c.in-Reply.branches []) end.ensures.1 (rw (← c.in-Reply.ensures) refl) c.in_err-write_all-in-Reply.ensures

pub write_branches-returns-in_err-write_all-in-Some : goal.write_branches-returns-in_err-write_all-in-Some
write_branches-returns-in_err-write_all-in-Some g t c =
    let end = c.from_residual in
    let below = tree_text c.in-Some.below [] in
    let more = branches_text c.in-Some.more [] in
    stops_within _ _ end.result _ (below ++ more) end.ensures.1
    (rw c.in-Some.ensures
    (ap (λ s. s ++ (below ++ more)) c.card_bytes.ensures ∙ parts c.in-Some.card c.in-Some.below c.in-Some.more))
    c.in_err-write_all-in-Some.ensures

pub write_branches-returns-in-None : goal.write_branches-returns-in-None
write_branches-returns-in-None g t c = rw c.in-None.ensures c.write_all.ensures

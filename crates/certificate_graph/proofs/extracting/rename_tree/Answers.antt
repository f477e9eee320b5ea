use Rattle.std.proofs.Common.{map, ◌∙◌, ap, arith}
use Rattle.std.proofs.lemmas.List.{take_all}
use Rattle.certificate_graph.specs.Extracts.{exchanged, rename_tree}
use Rattle.certificate_graph.specs.OneTree.{same_tree}
use Rattle.certificate_graph.specs.RowNames.{rename_token}
use Rattle.certificate_graph.proofs.RenameLemmas.{tree_renamed}
use Rattle.certificate_graph.proofs.extracting.rename_tree.Goals as goal

pub of_row-requires : goal.of_row-requires
of_row-requires c =
    let to = exchanged c.args.root in
    let row = c.tokens-row.result.now in
    let all = take_all c.loop-token.token-index row (omega arith) in (
      rename_tree to c.args.tree.now,
      c.loop-token.invariant ∙ (ap (λ l. map (rename_token to) l) (all ∙ c.tokens-row.ensures) ∙ tree_renamed to c.args.tree.now),
    )

pub returns : goal.returns
returns c =
    let to = exchanged c.args.root in
    let row = c.tokens-row.result.now in
    let all = take_all c.loop-token.token-index row (omega arith) in
    same_tree c.in_ok-tree.tree (rename_tree to c.args.tree.now)
    (c.in_ok-tree.ensures ∙ (c.loop-token.invariant ∙ (ap (λ l. map (rename_token to) l) (all ∙ c.tokens-row.ensures) ∙ tree_renamed to c.args.tree.now)))

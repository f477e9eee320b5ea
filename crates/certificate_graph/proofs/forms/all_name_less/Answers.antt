use Rattle.std.proofs.Common.{All, refl, subst, arith}
use Rattle.std.proofs.lemmas.List.{take_all}
use Rattle.std.proofs.lemmas.List.Elements.{All-more}
use Rattle.certificate_graph.specs.RowNames.{NamesLess}
use Rattle.certificate_graph.proofs.forms.all_name_less.Goals as goal

pub loop-token-preserved : goal.loop-token-preserved
loop-token-preserved c =
    All-more (NamesLess c.args.count) c.args.row.now c.loop-token.token-index _ (omega arith) c.loop-token.invariant
    (c.names_less.ensures.0 c.if-not-names_less.false)

pub returns : goal.returns
returns c =
    let row = c.args.row.now in
    let all = subst (All (NamesLess c.args.count)) (take_all c.loop-token.token-index row (omega arith)) c.loop-token.invariant in
    (λ yes. all, λ names. refl)

use Rattle.std.proofs.Common.{sym, ◌∙◌, ap, subst, arith}
use Rattle.std.specs.Option.{option_copied}
use Rattle.certificate_graph.specs.Graphs.{IsGraph}
use Rattle.best_cards.proofs.BestLaws.{are_best}
use Rattle.best_cards.proofs.FaultLaws.{reach_fault}
use Rattle.best_cards.proofs.judging.judge_best.Goals as goal

pub new-requires : goal.new-requires
new-requires c =
    are_best c.args.trick c.args.graphs.now c.args.claims.now c.in-Some.first.now (subst IsGraph c.graph.ensures c.invariant.ensures) (subst IsGraph c.graph-2.ensures c.invariant-2.ensures) c.invariant-3.ensures c.in_default-check_held.ensures c.in-Ok.values.items c.in-Ok.ensures
    (grind (arith, c.is_empty.ensures, c.if-is_empty.false))

pub returns-in-Err-values_of : goal.returns-in-Err-values_of
returns-in-Err-values_of c =
    reach_fault c.args.trick c.args.graphs.now c.args.claims.now c.in-Some.first.now c.in-Err-values_of.fault (sym c.first.ensures.value ∙ ap option_copied c.in-Some.is) c.in-Err-values_of.ensures

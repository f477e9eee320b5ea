use Rattle.std.proofs.Common.{◌<◌, length, refl, arith}
use Rattle.certificate_play.proofs.StepLaws.{same_kept}
use Rattle.certificate_play.proofs.steps.after.Goals as goal

pub returns : goal.returns
returns c =
    let step = c.args.step.now in
    let short : length step.trick.items < 3 = omega (arith, c.len.ensures.value, c.if-len-eq3.false, c.requires.by_node.short) in
    same_kept step _ c.args.card c.args.taken (record { graph_is = refl; node_is = refl; start_is = refl; trick_is = c.with_card.ensures; line_is = c.with_pat_card.ensures }) c.requires.by_node c.requires.way short

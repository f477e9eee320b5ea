use Rattle.std.proofs.Common.{◌∙◌}
use Rattle.certified_plays.proofs.BundleLaws.{shows_play}
use Rattle.certified_plays.proofs.searching.judge_play_bundle.Goals as goal

pub returns : goal.returns
returns c =
    shows_play c.args.bundle.now c.args.play c.judge_play-values.result _ c.as_slice-3.result.now c.as_slice-3.ensures.value
    (record {
      ns_graph = c.of-ns.ensures ∙ c.in_ok-clone.ensures.cases;
      ew_graph = c.of-ew.ensures ∙ c.in_ok-clone-2.ensures.cases;
      ns_begun = c.as_slice.ensures.value;
      ew_begun = c.as_slice-2.ensures.value;
    }) c.judge_play-values.ensures c.invariant.ensures

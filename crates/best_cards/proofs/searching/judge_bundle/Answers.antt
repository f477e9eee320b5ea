use Rattle.std.proofs.Common.{◌∙◌}
use Rattle.best_cards.proofs.BundleLemmas.{shows_best, lacks_best}
use Rattle.best_cards.proofs.searching.judge_bundle.Goals as goal

pub returns-in-Ok : goal.returns-in-Ok
returns-in-Ok c =
    shows_best c.args.bundle.now c.args.trick c.in-Ok.cards _ c.as_slice.result.now c.as_slice.ensures.value
    (record { ns = c.of-ns.ensures ∙ c.in_ok-clone.ensures.cases; ew = c.of-ew.ensures ∙ c.in_ok-clone-2.ensures.cases }) c.in-Ok.ensures c.invariant.ensures

pub returns : goal.returns
returns c =
    lacks_best c.args.bundle.now c.args.trick c.in-Err.fault
    (record { ns = record { ref_ptr = (0, 0); now = c.of-ns.result }; ew = record { ref_ptr = (0, 0); now = c.of-ew.result } })
    c.as_slice.result.now c.as_slice.ensures.value
    (record {
      ns = c.of-ns.ensures ∙ c.in_ok-clone.ensures.cases;
      ew = c.of-ew.ensures ∙ c.in_ok-clone-2.ensures.cases;
    }) c.in-Err.ensures

use Rattle.std.proofs.Common.{arith, length-drop}
use Rattle.std.proofs.lemmas.List.{take_all}
use Rattle.cards.proofs.DeviceLemmas.{Adds-more, take-drop_rest}
use Rattle.cards.proofs.devices.write_all.Goals as goal

pub loop-gone-preserved : goal.loop-gone-preserved
loop-gone-preserved g c =
    let text = c.args.text.now in
    let gone = c.loop-gone.gone in
    let taken = rw (take-drop_rest text gone) at c.in_ok-gone.ensures in
    record {
      within = omega (arith, taken.within, length-drop gone text);
      adds = Adds-more text gone c.in_ok-gone.field-0 c.loop-gone.invariant.adds taken.adds;
    }

pub returns : goal.returns
returns g c = rw (take_all c.loop-gone.gone c.args.text.now (omega arith)) at c.loop-gone.invariant.adds

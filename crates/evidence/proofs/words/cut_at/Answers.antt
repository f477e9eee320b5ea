use Rattle.std.proofs.Common.{◌+◌}
use Rattle.cards.proofs.DeviceLemmas.{take-drop_rest}
use Rattle.evidence.proofs.CutLemmas.{nowhere_lacks, found_parts, found_lacks}
use Rattle.evidence.proofs.words.cut_at.Goals as goal

pub returns-in_default : goal.returns-in_default
returns-in_default c = nowhere_lacks c.args.byte c.args.text.now c.in_default.ensures

pub returns : goal.returns
returns c =
    let found = c.in-Some.ensures in
    rw (take-drop_rest c.args.text.now (c.in-Some.place + 1)) (
      found_parts c.args.byte c.args.text.now c.in-Some.place found.0 found.1,
      found_lacks c.args.byte c.args.text.now c.in-Some.place found.0 found.1,
    )

use Rattle.pbn_deals.proofs.CutLemmas.{lines_of-cut, lines_of-last, after_shorter}
use Rattle.pbn_deals.proofs.line_cuts.cut_line.Goals as goal

pub returns-in-Some : goal.returns-in-Some
returns-in-Some c =
    let found = c.in-Some in (
      rw c.without_return.ensures (lines_of-cut c.args.text.now found.line.now found.after.now found.ensures.0 found.ensures.1),
      after_shorter c.args.text.now found.line.now found.after.now found.ensures.0,
    )

pub returns-in-None : goal.returns-in-None
returns-in-None c = lines_of-last c.args.text.now c.in-None.ensures

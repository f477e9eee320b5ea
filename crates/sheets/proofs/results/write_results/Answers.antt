use Rattle.std.proofs.Common.{arith}
use Rattle.sheets.proofs.ResultLemmas.{if_incomplete, if_complete}
use Rattle.sheets.proofs.results.write_results.Goals as goal

pub returns-then-known-lt20 : goal.returns-then-known-lt20
returns-then-known-lt20 g c =
    let results = (g.T.Results.printed_of c.args.results.now c.args.board).results in
    let known = c.count_results-known.ensures in
    rw (if_incomplete results (omega (arith, known.count, c.if-known-lt20.true)), ← known.count) c.write_with_number.ensures

pub returns-else-known-lt20 : goal.returns-else-known-lt20
returns-else-known-lt20 g c =
    let results = (g.T.Results.printed_of c.args.results.now c.args.board).results in
    let known = c.count_results-known.ensures in
    rw (if_complete results (omega (arith, known.count, known.at_most_20, c.if-known-lt20.false))) c.write_complete.ensures

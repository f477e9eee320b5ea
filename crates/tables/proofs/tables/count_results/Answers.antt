use Rattle.std.proofs.Common.{◌∙◌, cond, take, get_or, refl, ap, arith}
use Rattle.std.specs.Prelude.{is_some}
use Rattle.std.specs.List.{flat_map}
use Rattle.std.proofs.lemmas.List.Sums.{sum_by-append}
use Rattle.cards.specs.declared.seats.Seat.{Seat}
use Rattle.cards.specs.declared.seats.Seat.TheVariants.{North}
use Rattle.cards.specs.declared.suits.Trump.{Trump}
use Rattle.cards.proofs.WriteLemmas.{pieces-more, pieces-all}
use Rattle.tables.specs.TablesText.{declarers, entries_of, published_among, published_count}
use Rattle.tables.proofs.tables.count_results.Goals as goal

pub loop-declarer-preserved : goal.loop-declarer-preserved
loop-declarer-preserved g c =
    let results = (g.T.Results.printed_of c.args.results.now c.args.board).results in
    let i = c.loop-declarer.declarer-index in
    let more = ap (published_among results) (pieces-more entries_of declarers i North (omega arith)) in
    let sum = sum_by-append (λ (entry : Seat × Trump). cond (is_some (results entry.0 entry.1)) 1 0) (flat_map entries_of (take i declarers)) (entries_of (get_or declarers i North)) in
    record {
      items = refl;
      counted = omega (arith, more, sum);
      bound = omega arith;
    }

pub returns-clause-count : goal.returns-clause-count
unfolding published_count
returns-clause-count g c =
    let results = (g.T.Results.printed_of c.args.results.now c.args.board).results in
    c.loop-declarer.invariant.counted ∙ ap (published_among results) (pieces-all entries_of declarers c.loop-declarer.declarer-index (omega arith))

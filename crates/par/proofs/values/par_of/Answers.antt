use Rattle.std.proofs.Common.{◌≡◌, ◌∙◌, sym, ap, arith}
use Rattle.cards.specs.declared.seats.Side.TheVariants.{NorthSouth}
use Rattle.cards.specs.Seats.{other_side}
use Rattle.par.specs.Boards.{tricks_in}
use Rattle.par.specs.FinalScores.{final_score, gain_by}
use Rattle.par.proofs.Ladder.{other_side-twice}
use Rattle.par.proofs.Reaching.{north_south_value, value_is_par}
use Rattle.par.proofs.StepLaws.{kept-small, first_bid, one_more, dealer_gain, north_south}
use Rattle.par.proofs.values.par_of.Goals as goal

pub loop-above-init : goal.loop-above-init
loop-above-init c =
    let final = final_score (tricks_in c.args.tricks.now) c.args.vulnerable in
    let own = c.final_score-own.ensures in
    let others = c.final_score-others.ensures in
    rw (kept-small _ own.small, kept-small _ others.small) (record {
      own = own.points ∙ first_bid final c.side-side.result c.at-highest.result c.at-highest.ensures;
      others = others.points ∙ first_bid final c.other-other.result c.at-highest.result c.at-highest.ensures;
      own_small = own.small;
      others_small = others.small;
    })

pub loop-above-preserved : goal.loop-above-preserved
loop-above-preserved c =
    let final = final_score (tricks_in c.args.tricks.now) c.args.vulnerable in
    let side = c.side-side.result in
    let other = c.other-other.result in
    let far : side ≡ other_side other = sym (ap other_side c.other-other.ensures ∙ other_side-twice side) in
    let above = c.loop-above.above in
    let before = c.loop-above.invariant in
    let score = c.final_score-score.ensures in
    let theirs = c.final_score-score_others.ensures in
    let own = c.with_bid-own.ensures in
    let others = c.with_bid-others.ensures in
    rw (kept-small _ own.small, kept-small _ others.small) (record {
      own = own.value ∙ rw (kept-small _ score.small, score.points)
          (one_more final side other above c.at-bid.result _ _ c.other-other.ensures c.loop-above.auto.above (omega arith) c.at-bid.ensures before.own before.others);
      others = others.value ∙ rw (kept-small _ theirs.small, theirs.points)
          (one_more final other side above c.at-bid.result _ _ far c.loop-above.auto.above (omega arith) c.at-bid.ensures before.others before.own);
      own_small = own.small;
      others_small = others.small;
    })

pub returns-clause-par : goal.returns-clause-par
returns-clause-par c =
    let final = final_score (tricks_in c.args.tricks.now) c.args.vulnerable in
    let side = c.side-side.result in
    let end = c.loop-above.invariant in
    let gain = dealer_gain final side c.other-other.result c.loop-above.above _ _ c.other-other.ensures
    c.loop-above-test.false (c.loop-above.auto.above-end (omega arith)) end.own end.others
    in
    let is : c.of_north_south.result ≡ north_south_value final side =
    c.of_north_south.ensures.value
    ∙ (ap (gain_by NorthSouth side) (kept-small _ c.with_bid.ensures.small ∙ (c.with_bid.ensures.value ∙ gain)) ∙ north_south final side)
    in
    rw (kept-small _ c.of_north_south.ensures.small, is, c.side-side.ensures)
    (value_is_par (tricks_in c.args.tricks.now) c.args.dealer c.args.vulnerable)

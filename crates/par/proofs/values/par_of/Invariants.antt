-- What each side gains at best by the bids seen so far.
use Rattle.std.proofs.Common.{◌≡◌, ◌-◌, ◌<◌, ◌^◌}
use Rattle.std.specs.Prelude.{unsigned_abs}
use Rattle.par.specs.Boards.{tricks_in}
use Rattle.par.specs.FinalScores.{final_score}
use Rattle.par.proofs.Ladder.{best}
use Rattle.par.proofs.values.par_of.Given as goal

abbrev pub invariant-loop-above : goal.invariant-loop-above
invariant-loop-above l =
    let final = final_score (tricks_in l.tricks) l.vulnerable in
    record {
      own : l.own ≡ best final l.side (l.above - 1);
      others : l.others ≡ best final l.other (l.above - 1);
      own_small : unsigned_abs l.own < 2 ^ 16;
      others_small : unsigned_abs l.others < 2 ^ 16;
    }

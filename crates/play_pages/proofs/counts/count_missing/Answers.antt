use Rattle.std.proofs.Common.{ℕ, ◌∙◌, take_all, ap, arith, sum_by}
use Rattle.std.specs.List.{enumerate_from}
use Rattle.std.proofs.lemmas.List.FromFn.{length-enumerate_from}
use Rattle.std.proofs.lemmas.List.Sums.{sum_by_more}
use Rattle.recorded_plays.specs.declared.plays.RecordedGame.{RecordedGame}
use Rattle.play_pages.specs.Tasks.{lines_in}
use Rattle.play_pages.specs.Counts.{missing_of, missing_count}
use Rattle.play_pages.proofs.Places.{place_within, one_at}
use Rattle.play_pages.proofs.counts.count_missing.Goals as goal

pub loop-place-preserved : goal.loop-place-preserved
loop-place-preserved c =
    let games = c.args.games.now in
    let missing : ℕ × RecordedGame → ℕ = λ numbered. missing_of numbered.1.play (lines_in c.args.table.now numbered.0) in
    let place = c.loop-place.place in
    let game = c.index-games-place.result in
    let is = c.index-games-place.is in
    let more = sum_by_more missing (enumerate_from 0 games) place (0, game) (place_within games place (omega arith)) in
    let there = ap missing (one_at games place game (omega arith) is) in
    let found = rw c.lines.ensures at c.missing_of-missing.ensures.count in
    record { counted = omega (arith, more, there, found, c.loop-place.invariant.counted); bound = omega (arith, c.missing_of-missing.ensures.at_most_53) }

pub returns : goal.returns
unfolding missing_count
returns c =
    let games = c.args.games.now in
    let missing : ℕ × RecordedGame → ℕ = λ numbered. missing_of numbered.1.play (lines_in c.args.table.now numbered.0) in
    c.loop-place.invariant.counted
    ∙ ap (sum_by missing) (take_all c.loop-place.place (enumerate_from 0 games) (omega (arith, length-enumerate_from 0 games)))

-- The lines so far were looked at.
use Rattle.std.proofs.Common.{◌≤◌, List, false, length}
use Rattle.pbn_deals.specs.Pieces.{rows_of, Line, AreLines}
use Rattle.whole_texts.proofs.Surveys.{Surveyed}
use Rattle.whole_texts.proofs.games.first_game.Given as goal

abbrev pub invariant-loop-row : goal.invariant-loop-row
invariant-loop-row l = record {
  surveyed : (lines : List Line) → AreLines false (rows_of l.fn.text) lines false → Surveyed l.fn.renews l.fn.text lines l.back l.rest l.before.is_open l.before.in_table l.deal_end;
  back_within : length l.back ≤ length l.fn.text;
  rest_within : length l.rest ≤ length l.back;
}

abbrev pub decreases-loop-row : goal.decreases-loop-row
decreases-loop-row l = length l.rest

-- The lines of the cards so far.
use Rattle.std.proofs.Common.{◌≡◌, length, take}
use Rattle.std.specs.Option.{option_copied}
use Rattle.play_pages.specs.Lines.{lines_of}
use Rattle.play_pages.specs.Answers.{numbers_in}
use Rattle.play_pages.proofs.finding.lines_of.Given as goal

abbrev pub invariant-loop-place : goal.invariant-loop-place
invariant-loop-place l = record {
  size : length l.lines.items ≡ l.place;
  are : l.lines.items ≡ take l.place (lines_of l.play (numbers_in (option_copied l.values)));
}

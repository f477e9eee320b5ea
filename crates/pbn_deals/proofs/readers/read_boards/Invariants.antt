-- What is answered for the rest of the text, after the boards that have been read, is the answer for the text.
use Rattle.std.proofs.Common.{◌+◌, ◌≤◌, List, length, Result}
use Rattle.pbn_deals.specs.declared.boards.Board.{Board}
use Rattle.pbn_deals.specs.declared.faults.PbnFault.{PbnFault}
use Rattle.pbn_deals.specs.Lines.{lines_of}
use Rattle.pbn_deals.specs.Reading.{TextAnswers, put_boards}
use Rattle.pbn_deals.specs.Steps.{AnswersFrom}
use Rattle.pbn_deals.proofs.readers.read_boards.Given as goal

abbrev pub invariant-lines : goal.invariant-lines
invariant-lines l = record {
  goes : (answer : Result (List Board) PbnFault) → AnswersFrom l.number l.reader (lines_of l.rest) answer → TextAnswers l.text (put_boards l.reader.boards.items answer);
  bound : l.number + length l.rest ≤ length l.text + 1;
}

abbrev pub decreases-lines : goal.decreases-lines
decreases-lines l = length l.rest

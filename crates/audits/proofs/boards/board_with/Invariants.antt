-- No board before `number` has the deal.
use Rattle.audits.proofs.BoardLaws.{NoneBefore}
use Rattle.audits.proofs.boards.board_with.Given as goal

abbrev pub invariant-loop-number : goal.invariant-loop-number
invariant-loop-number l = NoneBefore l.boards l.deal l.number

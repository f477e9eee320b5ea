-- What the book has answered is the beginning of the list.
use Rattle.std.proofs.Common.{take}
use Rattle.plain_runs.proofs.ReplayLaws.{IsUnderWay}
use Rattle.plain_runs.proofs.replays.replay.Given as goal

abbrev pub invariant-loop-request : goal.invariant-loop-request
invariant-loop-request l =
    IsUnderWay (record { boards = l.fn.boards.items; term = l.term; tries = l.tries }) (take l.request-index l.requests) l.book l.replies.items

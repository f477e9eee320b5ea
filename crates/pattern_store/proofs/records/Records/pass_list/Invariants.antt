-- What has gone along the list so far.
use Rattle.pattern_store.specs.Records.{Goes}
use Rattle.pattern_store.proofs.records.Records.pass_list.Given as goal

abbrev pub invariant-loop-number : goal.invariant-loop-number
invariant-loop-number l = Goes l.fn.self l.self l.fn.list l.fn.waiting.moved l.waiting.moved

use Rattle.std.proofs.Common.{arith}
use Rattle.certificate_graph.proofs.NumberLemmas.{number_begun}
use Rattle.certificate_graph.proofs.scanning.read_number.Goals as goal

pub returns-then-is_number : goal.returns-then-is_number
returns-then-is_number c =
    let first = c.first_digits-value.ensures in
    let split = c.split_at.ensures in
    number_begun c.args.text.now c.split_at.result.0.now c.split_at.result.1.now c.first_digits-value.result.0 c.first_digits-value.result.1
    (omega arith) first.within split.front split.back first.value (first.stops (omega arith)) (c.is_number.ensures.0 c.if-is_number.true)

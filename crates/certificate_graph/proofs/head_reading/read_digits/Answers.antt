use Rattle.certificate_graph.proofs.HeadLemmas.{digits_by_end, digits_by_number}
use Rattle.certificate_graph.proofs.head_reading.read_digits.Goals as goal

pub returns-in_default-after_byte : goal.returns-in_default-after_byte
returns-in_default-after_byte c =
    let split = c.split_digits.ensures in
    digits_by_end c.args.text.now _ _ _ c.in-Some.ensures split.parts split.digits split.stops c.in_default-after_byte.ensures

pub returns-else-is_number : goal.returns-else-is_number
returns-else-is_number c =
    let split = c.split_digits.ensures in
    digits_by_number c.args.text.now _ _ _ c.in-Some.ensures split.parts split.digits split.stops
    (λ number. let yes = c.is_number.ensures.1 number in let no = c.if-is_number.false in cc)

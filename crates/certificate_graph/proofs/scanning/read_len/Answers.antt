use Rattle.std.proofs.Common.{arith}
use Rattle.certificate_graph.proofs.NumberLemmas.{len_is}
use Rattle.certificate_graph.proofs.scanning.read_len.Goals as goal

pub returns-then-len-gt-GREATEST_LEN : goal.returns-then-len-gt-GREATEST_LEN
returns-then-len-gt-GREATEST_LEN c = λ len rest few e.
    let same = len_is _ _ c.args.byte _ len rest c.in-Some.ensures c.requires few e in
    omega arith

pub returns-in_default-after_byte : goal.returns-in_default-after_byte
returns-in_default-after_byte c = λ len rest few e.
    let same = len_is _ _ c.args.byte _ len rest c.in-Some.ensures c.requires few e in
    c.in_default-after_byte.ensures rest same.1

use Rattle.std.proofs.Common.{◌++◌, length, sym, ◌∙◌, ap}
use Rattle.play_evidence.proofs.node_finding.find_begun.Goals as goal

pub returns-in_default : goal.returns-in_default
returns-in_default c = λ nodes rest are e. c.in_default.ensures (length nodes) _ are.few e

pub returns-in_default-2 : goal.returns-in_default-2
returns-in_default-2 c = λ nodes rest are e.
    let count = c.in-Some.ensures (length nodes) _ are.few e in
    let none = rw c.in_default-2.is at c.in_ok-rest.ensures in
    none nodes rest (sym count.0) are.each count.1

pub returns : goal.returns
returns c = λ nodes rest are e.
    let count = c.in-Some.ensures (length nodes) _ are.few e in
    let adds = rw c.in-Some-2.is at c.in_ok-rest.ensures in
    let more = adds nodes rest (sym count.0) are.each count.1 in
    (more.0 ∙ ap (λ l. l ++ nodes) c.new-nodes.ensures.items, more.1)

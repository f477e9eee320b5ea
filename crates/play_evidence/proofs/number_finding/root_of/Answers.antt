use Rattle.std.proofs.Common.{sym, ◌∙◌}
use Rattle.evidence.proofs.WordLemmas.{dash_is_none, number_is_some}
use Rattle.play_evidence.proofs.number_finding.root_of.Goals as goal

pub returns-in-Some : goal.returns-in-Some
returns-in-Some c = λ root is e. sym (dash_is_none root _ is (sym e ∙ c.in-Some.ensures))

pub returns-in-Some-number_of : goal.returns-in-Some-number_of
returns-in-Some-number_of c = λ root is e.
    let read = number_is_some root c.args.word.now c.number_of.result is e c.in_default.ensures c.number_of.ensures in
    let some = read.1 in let told = read.2 in cc

pub returns-in-None : goal.returns-in-None
returns-in-None c = λ root is e.
    let read = number_is_some root c.args.word.now c.number_of.result is e c.in_default.ensures c.number_of.ensures in
    let told = read.2 in cc

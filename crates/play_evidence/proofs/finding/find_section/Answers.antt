use Rattle.play_evidence.proofs.SectionLemmas.{same_section, section_found}
use Rattle.play_evidence.proofs.finding.find_section.Goals as goal

pub returns-in_default : goal.returns-in_default
returns-in_default c = λ section of. c.in_default.ensures section _ of.0 of.1

pub returns-in_default-2 : goal.returns-in_default-2
returns-in_default-2 c = λ section of.
    let play = c.in-Some.ensures section _ of.0 of.1 in
    let none = rw c.in_default-2.is at c.in_ok-bundle.ensures in
    none section of.0 play.1

pub returns : goal.returns
returns c =
    section_found c.args.text.now _ c.new.result c.new.ensures (λ section of.
    let play = c.in-Some.ensures section _ of.0 of.1 in
    let bundle = (rw c.in-Some-2.is at c.in_ok-bundle.ensures) section of.0 play.1 in
    same_section section c.in-Some.play c.in-Some-2.bundle play.0 bundle)

use Rattle.std.proofs.Common.{◌≤◌, sym, ◌∙◌, arith}
use Rattle.std.specs.Fmt.{decimal}
use Rattle.card_evidence.proofs.LineLemmas.{no_line, one_line}
use Rattle.play_evidence.proofs.NumberLemmas.{count-lacks}
use Rattle.play_evidence.proofs.number_finding.find_count.Goals as goal

pub returns-in_default : goal.returns-in_default
returns-in_default c = no_line (λ count. count ≤ 53) decimal count-lacks c.args.name.now c.args.text.now c.in_default.ensures

pub returns-in_default-tricks_of : goal.returns-in_default-tricks_of
returns-in_default-tricks_of c = λ count rest few e.
    let line = c.in-Some.ensures in
    let word = one_line c.args.name.now c.in-Some.word.now (decimal count) c.in-Some.rest.now rest line.0 (count-lacks count few) (sym line.1 ∙ e) in
    let told = c.in_default-tricks_of.ensures count (omega arith) word.0 in cc

pub returns : goal.returns
returns c = λ count rest few e.
    let line = c.in-Some.ensures in
    let word = one_line c.args.name.now c.in-Some.word.now (decimal count) c.in-Some.rest.now rest line.0 (count-lacks count few) (sym line.1 ∙ e) in
    let told = c.in-Some-tricks_of.ensures count (omega arith) word.0 in
    (cc, word.1)

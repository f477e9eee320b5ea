use Rattle.std.proofs.Common.{subst, sym, arith}
use Rattle.std.specs.Str.{IsUtf8}
use Rattle.evidence.proofs.WordLemmas.{decimal-utf8, is_read}
use Rattle.play_evidence.proofs.number_finding.number_of.Goals as goal

pub returns-in_default : goal.returns-in_default
returns-in_default c = λ number few e. absurd (c.in_default.ensures.cases.0 (subst IsUtf8 (sym e) (decimal-utf8 number (omega arith))))

pub returns-in-Ok-parse : goal.returns-in-Ok-parse
returns-in-Ok-parse c = λ number few e.
    let read = is_read number 32 c.args.word.now _ c.parse.result few (omega arith) c.in-Ok.ensures.cases.0 e c.parse.ensures.value.0 in cc

pub returns-in-Err : goal.returns-in-Err
returns-in-Err c = λ number few e.
    let read = is_read number 32 c.args.word.now _ c.parse.result few (omega arith) c.in-Ok.ensures.cases.0 e c.parse.ensures.value.0 in cc

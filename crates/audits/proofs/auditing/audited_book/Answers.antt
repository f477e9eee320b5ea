-- Memory may run out before any evidence is read, or after all was.
use Rattle.audits.proofs.ReadLaws.{untouched, lost_after}
use Rattle.audits.proofs.auditing.audited_book.Goals as goal

pub returns-in_default : goal.returns-in_default
returns-in_default g c = untouched c.args.evidence.now

pub returns-then-is_err : goal.returns-then-is_err
returns-then-is_err g c =
    let reads = c.read_firsts-read.ensures.reads in
    lost_after _ _ reads.parts c.read_firsts-read.result.damage c.read_firsts-read.result.ended _ c.in_ok-read.was reads.read_is

use Rattle.audits.proofs.ReadLaws.{loses, err_is}
use Rattle.audits.proofs.showing.show_evidence.Goals as goal

pub returns-in_err-publish_firsts-clause-err : goal.returns-in_err-publish_firsts-clause-err
returns-in_err-publish_firsts-clause-err g c =
    let reads = c.read_firsts-read.ensures.reads in
    err_is _ _ (loses _ _ reads.parts _ _ reads.read_is)

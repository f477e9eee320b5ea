use Rattle.evidence.proofs.HeadLemmas.{none_read, claims_read}
use Rattle.evidence.proofs.head_reading.+read_claims.Goals as goal

pub returns-in_default : goal.returns-in_default
returns-in_default t c = λ more rest all none few e. none_read c.args.text.now c.args.claims.now.items more rest c.in_default.ensures all e

pub returns : goal.returns
returns t c = claims_read c.args.text.now c.in-Some.claim c.in-Some.rest.now _ _ _ c.in-Some.ensures c.push.ensures.items c.read_claims.ensures

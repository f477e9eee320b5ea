use Rattle.lease_desk.specs.Desks.{terms_of}
use Rattle.lease_desk.proofs.CallLaws.{handed}
use Rattle.lease_desk.proofs.desk.Desk.hand_in.Goals as goal

pub returns : goal.returns
returns g c = record {
  chair = c.call.ensures.chair;
  number = c.call.ensures.number;
  ok =
      handed (terms_of c.args.self.now) _ _ c.args.lease c.args.entry c.args.claimed.now c.verdict_on-verdict.result c.call.result
      (rw c.as_slice.ensures.value at c.verdict_on-verdict.ensures.verdict) c.verdict_on-verdict.ensures.proven c.call.ensures.ok;
  err = c.call.ensures.err;
}

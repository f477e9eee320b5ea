use Rattle.evidence_solvers.proofs.AddLaws.{none_added}
use Rattle.evidence_solvers.proofs.added.NamedTail.new.Goals as goal

pub invariant_of-result : goal.invariant_of-result
invariant_of-result g c =
    rw c.new.ensures.items (none_added g.T.Held.may_be g.T.Held.held (g.F.Write.contents c.args.tail.file) c.args.tail.has_failed c.requires)

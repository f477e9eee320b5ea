use Rattle.evidence_solvers.proofs.AddLaws.{kept_for}
use Rattle.evidence_solvers.proofs.added.NamedTail.close.Goals as goal

pub returns : goal.returns
returns g c =
    rw (c.judged_by.ensures.file, c.close.ensures.file)
    (kept_for g.T.Held.may_be g.T.Held.held (g.F.Write.contents c.self.inside.tail.file) c.self.inside.claims.items c.args.events.now c.self.inside.tail.has_failed c.self.inside.tail.lacks c.close.result.kept c.judged_by.result.kept c.self.invariant c.close.ensures.kept
    (rw c.as_slice.ensures.value at c.judged_by.ensures.kept))

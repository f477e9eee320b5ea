use Rattle.evidence_solvers.proofs.tails.Tail.close.Goals as goal

pub returns-clause-kept : goal.returns-clause-kept
returns-clause-kept g c = (c.sync-done.result.failed, rw c.note_sync.ensures at c.after.ensures.kept)

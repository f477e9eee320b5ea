use Rattle.evidence_solvers.proofs.AddLaws.{wrote_part, wrote_none}
use Rattle.evidence_solvers.proofs.tails.Tail.write_text.Goals as goal
use Rattle.evidence_solvers.proofs.tails.Tail.write_text.Goals.{in-Ok, in-Err}

pub returns-clause-text : goal.returns-clause-text
returns-clause-text g c = rw c.if-self.false (elim c.match-write.branch [
  | in-Ok w ↦ wrote_part g.F.Write.contents c.args.self.now.file c.write.new.self c.args.text.now w.in-Ok.count c.match-write.self w.in-Ok.ensures.bound w.in-Ok.ensures.bytes w.self-is
  | in-Err w ↦ wrote_none g.F.Write.contents c.args.self.now.file c.write.new.self c.args.text.now c.match-write.self w.in-Err.ensures.bytes w.self-is
])

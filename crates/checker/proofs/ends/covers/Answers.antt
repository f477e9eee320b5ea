use Rattle.std.proofs.Common.{IsTrue, ◌↔◌, sym, subst}
use Rattle.patterns.specs.Shapes.{Covers}
use Rattle.patterns.proofs.SeatLaws.{told_true, told_false, not_told}
use Rattle.certificate_graph.specs.declared.versions.Version.{Version}
use Rattle.checker.specs.Steps.{rest_read}
use Rattle.checker.proofs.ChildLaws.{read_covered}
use Rattle.checker.proofs.ends.covers.Goals as goal

pub returns-then-covers : goal.returns-then-covers
returns-then-covers c = told_true (read_covered c.args.version c.args.pattern.now c.args.left.now (c.covers.ensures.0 c.if-covers.true))

pub returns-in-One : goal.returns-in-One
returns-in-One c = told_false (subst (λ (v : Version). Covers c.args.pattern.now (rest_read v c.args.left.now) → ⊥) (sym c.in-One.is) (not_told c.covers.ensures c.if-covers.false))

pub returns-in-Two : goal.returns-in-Two
returns-in-Two c =
    subst (λ (v : Version). IsTrue c.covers-in-Two.result ↔ Covers c.args.pattern.now (rest_read v c.args.left.now)) (sym c.in-Two.is)
    (rw c.completed.ensures at c.covers-in-Two.ensures)

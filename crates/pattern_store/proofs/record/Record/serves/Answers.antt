use Rattle.std.proofs.Common.{◌∙◌, sym, arith}
use Rattle.std.proofs.lemmas.Bool.Decides.{Decides-eqb, nat_tests}
use Rattle.pattern_store.proofs.Serving.{serves_when, within_of, same_of}
use Rattle.pattern_store.proofs.record.Record.serves.Goals as goal
use Rattle.pattern_store.proofs.record.Record.serves.Goals.{then-self-other, else-self-other, then-self-other-eq0, else-self-other-eq0}

pub returns-then-self-other-eq0-2 : goal.returns-then-self-other-eq0-2
returns-then-self-other-eq0-2 c = λ masked other_masked.
    elim c.if-self-other-eq0.branch [
      | then-self-other-eq0 w ↦ elim c.if-self-other.branch [
        | then-self-other v ↦
            serves_when c.args.self.now c.args.other.now masked other_masked (omega arith) (omega arith) v.if-self-other.true
            ((Decides-eqb _ 0).0 (sym v.value-is ∙ w.if-self-other-eq0.true))
            ((Decides-eqb _ 0).0 (sym w.value-is ∙ c.if-self-other-eq0-2.true)) c.serves_deep.result c.serves_deep.ensures
        | else-self-other v ↦ let passes = sym v.value-is ∙ w.if-self-other-eq0.true in absurd (grind (arith, nat_tests))
      ]
      | else-self-other-eq0 w ↦ let fails = w.value-is ∙ w.if-self-other-eq0.false in cc
    ]

pub returns-else-self-other-eq0-2 : goal.returns-else-self-other-eq0-2
returns-else-self-other-eq0-2 c = λ masked other_masked. (
  λ passes. cc,
  λ serves. elim c.if-self-other-eq0.branch [
    | then-self-other-eq0 w ↦
        w.value-is ∙ (Decides-eqb _ 0).1 (same_of c.args.self.now c.args.other.now masked (omega arith) serves)
    | else-self-other-eq0 w ↦ elim c.if-self-other.branch [
      | then-self-other v ↦
          w.value-is ∙ v.value-is ∙ (Decides-eqb _ 0).1 (within_of c.args.self.now c.args.other.now masked other_masked (omega arith) (omega arith) serves)
      | else-self-other v ↦ absurd (omega (arith, v.if-self-other.false, serves.enough))
    ]
  ],
)

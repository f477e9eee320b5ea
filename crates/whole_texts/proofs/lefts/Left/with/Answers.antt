use Rattle.std.proofs.Common.{subst}
use Rattle.pbn_deals.specs.FirstPieces.{ArePieces}
use Rattle.whole_texts.proofs.LeftKinds.{blanks_stay, more_stays, comment_more, others_more}
use Rattle.whole_texts.proofs.lefts.Left.with.Goals as goal
use Rattle.whole_texts.proofs.lefts.Left.with.Goals.{in-Comment, in-Comment-2}

-- src/lefts.rt:26:5
pub returns-in-Nothing : goal.returns-in-Nothing
returns-in-Nothing c = λ before pieces e are some. blanks_stay c.args.renews c.args.self before pieces c.in-Blanks.field-0.now c.in-Nothing.is e (subst (λ p. ArePieces p pieces) c.in-Blanks.is are) some

-- src/lefts.rt:26:5
pub returns-in-Count : goal.returns-in-Count
returns-in-Count c = λ before pieces e are some. more_stays c.args.renews c.args.self before pieces c.in-Count.is e some

-- src/lefts.rt:26:5
pub returns-in-Pair : goal.returns-in-Pair
returns-in-Pair c = λ before pieces e are some. others_more c.args.renews c.args.piece before pieces c.in-Pair.is are some

-- src/lefts.rt:26:5
pub returns-in-Blanks-self : goal.returns-in-Blanks-self
returns-in-Blanks-self c = λ before pieces e are some.
    elim c.in-Comment-1.branch [
      | in-Comment w ↦ (comment_more c.args.renews) c.args.self c.args.piece before pieces w.in-Comment.bytes c.in-Blanks-self.is e w.in-Comment.is are
      | in-Comment-2 w ↦ (comment_more c.args.renews) c.args.self c.args.piece before pieces w.in-Comment.bytes c.in-Blanks-self.is e w.in-Comment.is are
    ]

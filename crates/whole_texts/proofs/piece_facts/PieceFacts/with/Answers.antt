use Rattle.std.proofs.Common.{false, ◌++◌, sym, ap, subst}
use Rattle.whole_texts.specs.Facts.{AreFacts}
use Rattle.pbn_deals.specs.FirstPieces.{ArePieces, opens_comment}
use Rattle.whole_texts.specs.OldTables.{left_pieces}
use Rattle.whole_texts.proofs.FactsOf.{others_stay, open_stays, data_goes, data_is_left}
use Rattle.whole_texts.proofs.piece_facts.PieceFacts.with.Goals as goal

-- src/piece_facts.rt:49:5
pub returns-in-OpenComment : goal.returns-in-OpenComment
returns-in-OpenComment c = λ t before pieces h are some.
    open_stays c.args.renews c.args.piece c.in-OpenComment.field-0 t before pieces c.args.self c.with.result c.in-OpenComment.is h are (c.with.ensures (left_pieces c.args.renews t before) pieces h.left are some)

-- src/piece_facts.rt:49:5
pub returns-in-Pair : goal.returns-in-Pair
returns-in-Pair c = λ t before pieces h are some.
    let is = subst (λ p. ArePieces p pieces) c.in-Pair.is are in
    let made = c.with_pair.ensures t before c.in-Pair.value.now c.in-Pair.bytes.now h (subst (λ l. ArePieces c.args.piece l) is are) in
    subst (λ o. AreFacts c.args.renews t (before ++ pieces) o c.with_pair.result) (sym (ap opens_comment c.in-Pair.is))
    (subst (λ l. AreFacts c.args.renews t (before ++ l) false c.with_pair.result) (sym is) made)

-- src/piece_facts.rt:49:5
pub returns-then-self : goal.returns-then-self
returns-then-self c = λ t before pieces h are some. data_goes c.args.renews c.args.piece c.in-Data.field-0 t before pieces c.args.self c.in-Data.is c.if-self.true h are

-- src/piece_facts.rt:49:5
pub returns-else-self : goal.returns-else-self
returns-else-self c = λ t before pieces h are some.
    data_is_left c.args.renews c.args.piece c.in-Data.field-0 t before pieces c.args.self c.with-else-self.result c.in-Data.is c.if-self.false h are (c.with-else-self.ensures (left_pieces c.args.renews t before) pieces h.left are some)

-- src/piece_facts.rt:49:5
pub returns-in-Blanks : goal.returns-in-Blanks
returns-in-Blanks c = λ t before pieces h are some.
    others_stay c.args.renews c.args.piece t before pieces c.args.self c.with-in-Blanks.result c.in-Blanks.is h are (c.with-in-Blanks.ensures (left_pieces c.args.renews t before) pieces h.left are some)

use Rattle.std.proofs.Common.{◌≡◌, ◌+◌, false, sym, ◌∙◌, arith}
use Rattle.std.proofs.lemmas.List.{take_all, take_rest}
use Rattle.std.proofs.lemmas.List.Elements.{All-more}
use Rattle.pbn_deals.specs.Letters.{is_blank}
use Rattle.recorded_plays.proofs.WordsCut.{cut_at, not_cut}
use Rattle.recorded_plays.proofs.slots.cut_word.Goals as goal

pub returns-then-is_blank-clause-split : goal.returns-then-is_blank-clause-split
returns-then-is_blank-clause-split c =
    rw (take_rest c.args.text.now (c.loop-i.i + 1))
    (cut_at c.args.text.now c.loop-i.i 0 (omega arith) c.loop-i.invariant (sym c.is_blank.ensures ∙ c.if-is_blank.true))

pub loop-i-preserved : goal.loop-i-preserved
loop-i-preserved c =
    All-more (λ byte. is_blank byte ≡ false) c.args.text.now c.loop-i.i 0 (omega arith) c.loop-i.invariant (sym c.is_blank.ensures ∙ c.if-is_blank.false)

pub returns-clause-split : goal.returns-clause-split
returns-clause-split c = not_cut c.args.text.now (rw (take_all c.loop-i.i c.args.text.now (omega arith)) at c.loop-i.invariant)

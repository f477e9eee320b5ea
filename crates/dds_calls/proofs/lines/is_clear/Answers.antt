-- The cards between the ranks are looked at one by one.
use Rattle.std.proofs.Common.{◌≡◌, ◌<◌, ◌∙◌, sym, ap, arith}
use Rattle.cards.specs.declared.pack.Rank.{Rank}
use Rattle.cards.specs.Pack.{card_of, rank_number}
use Rattle.cards.specs.Deal.{holder_of}
use Rattle.cards.proofs.PackLaws.{rank_number-rank_at}
use Rattle.dds_calls.proofs.LineLaws.{clear_below}
use Rattle.dds_calls.proofs.lines.is_clear.Goals as goal

pub loop-number-preserved : goal.loop-number-preserved
loop-number-preserved c =
    clear_below c.args.layout.now c.args.player c.args.suit c.args.low c.loop-number.number c.loop-number.invariant
    (λ seat h. c.if-is_other.ensures seat (c.owner.ensures ∙ (ap (λ (r : Rank). holder_of c.args.layout.now (card_of c.args.suit r)) c.at-rank.ensures ∙ h)))

pub returns-then-is_other : goal.returns-then-is_other
returns-then-is_other c =
    let number : rank_number c.at-rank.result ≡ c.loop-number.number = ap rank_number c.at-rank.ensures ∙ rank_number-rank_at c.loop-number.number (omega arith) in
    let above : rank_number c.args.low < rank_number c.at-rank.result = omega (arith, number, c.loop-number.auto.number, c.number-number.ensures.place) in
    let under : rank_number c.at-rank.result < rank_number c.args.high = omega (arith, number, c.loop-number-test.true, c.number-number-end.ensures.place) in
    let other = c.if-is_other.ensures in
    λ clear. other.2 (clear c.at-rank.result above under other.0 (sym c.owner.ensures ∙ other.1))

pub returns : goal.returns
returns c = λ rank above under seat h. c.loop-number.invariant rank above (omega (arith, under, c.loop-number-test.false, c.number-number-end.ensures.place)) seat h

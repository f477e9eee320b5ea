use Rattle.std.proofs.Common.{sym, ◌∙◌, arith}
use Rattle.audits.proofs.BoardLaws.{is_board_with, no_board_with}
use Rattle.audits.proofs.boards.board_with.Goals as goal

pub returns-then-has_deal : goal.returns-then-has_deal
returns-then-has_deal c =
    is_board_with c.args.boards.now c.args.deal.now c.loop-number.number c.loop-number.invariant (sym c.has_deal.ensures ∙ c.if-has_deal.true)

pub returns : goal.returns
returns c = no_board_with c.args.boards.now c.args.deal.now (λ before l. c.loop-number.invariant before (omega (arith, l, c.loop-number-test.false)))

use Rattle.std.proofs.Common.{sym, ◌∙◌}
use Rattle.pbn_deals.proofs.LineStarts.{comment_start, game_start, closed_start}
use Rattle.pbn_deals.proofs.line_starts.line_start.Goals as goal

pub returns-in_default : goal.returns-in_default
returns-in_default c = λ kind last h. comment_start c.args.is_open c.args.line.now kind last c.if-is_open.true c.in_default.ensures h

pub returns-then-is_open : goal.returns-then-is_open
returns-then-is_open c = λ kind last h.
    let found = c.in-Some in
    closed_start c.args.is_open c.args.line.now found.field-0-0.now found.rest.now c.front_of-comment.result.now kind last c.if-is_open.true found.ensures.0 found.ensures.1 c.front_of-comment.ensures h

pub returns-else-is_blank_line : goal.returns-else-is_blank_line
returns-else-is_blank_line c = λ kind last h.
    game_start c.args.is_open c.args.line.now kind last c.if-is_open.false (sym c.is_escaped.ensures ∙ c.if-is_escaped.false) (sym c.is_blank_line.ensures ∙ c.if-is_blank_line.false) h

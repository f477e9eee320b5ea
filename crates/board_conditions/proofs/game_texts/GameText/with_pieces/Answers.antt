use Rattle.std.proofs.Common.{◌||◌, sym, ap, subst}
use Rattle.pbn_deals.proofs.PiecesInTurn.{takes_bytes}
use Rattle.board_conditions.proofs.Named.{GoesOn, begins, goes_on, ends}
use Rattle.board_conditions.proofs.game_texts.GameText.with_pieces.Goals as goal

pub loop-piece-init : goal.loop-piece-init
loop-piece-init c = λ pieces more is_open h has. begins pieces more is_open c.args.self c.args.line.now h has

pub loop-piece-smaller : goal.loop-piece-smaller
loop-piece-smaller c = takes_bytes c.loop-piece.in_data c.loop-piece.rest.now c.in-Some.after.now c.in-Some.piece c.in-Some.ensures

pub loop-piece-preserved : goal.loop-piece-preserved
loop-piece-preserved c = λ pieces more is_open h has.
    let g = c.loop-piece.invariant pieces more is_open h has in
    subst (λ flag. GoesOn pieces more is_open c.with-game.result flag c.in-Some.after.now) (sym (ap (λ b. b || c.loop-piece.in_data) c.is_data-in_data.ensures))
    (goes_on pieces more is_open c.loop-piece.in_data c.loop-piece.rest.now c.in-Some.after.now c.loop-piece.game c.with-game.result c.in-Some.piece g (c.in-Some.ensures g.others g.behind g.has) c.with-game.ensures)

pub returns : goal.returns
returns c = λ pieces more is_open h has.
    let g = c.loop-piece.invariant pieces more is_open h has in
    let none = c.in_default.ensures g.others g.behind g.has in
    ends pieces more is_open c.loop-piece.in_data c.loop-piece.rest.now c.loop-piece.game g (none.1, none.2)

use Rattle.std.proofs.Common.{◌||◌, sym, ap, subst}
use Rattle.pbn_deals.proofs.PiecesInTurn.{takes_bytes}
use Rattle.recorded_plays.proofs.Taken.{GoesOn, begins, goes_on, ends}
use Rattle.recorded_plays.proofs.game_texts.GameText.take_pieces.Goals as goal

pub loop-piece-init : goal.loop-piece-init
loop-piece-init c = λ pieces more is_open h has. begins pieces more is_open c.args.self.now c.args.line.now h has

pub loop-piece-smaller : goal.loop-piece-smaller
loop-piece-smaller c = takes_bytes c.loop-piece.in_data c.loop-piece.rest.now c.in-Some.after.now c.in-Some.piece c.in-Some.ensures

pub loop-piece-preserved : goal.loop-piece-preserved
loop-piece-preserved c = λ pieces more is_open h has.
    let g = c.loop-piece.invariant pieces more is_open h has in
    subst (λ flag. GoesOn pieces more is_open c.take.new.self flag c.in-Some.after.now) (sym (ap (λ b. b || c.loop-piece.in_data) c.is_data-in_data.ensures))
    (goes_on pieces more is_open c.loop-piece.in_data c.loop-piece.rest.now c.in-Some.after.now c.loop-piece.self c.take.new.self c.in-Some.piece g (c.in-Some.ensures g.others g.behind g.has) c.in_ok-take.ensures)

pub returns : goal.returns
returns c = λ pieces more is_open h has.
    let g = c.loop-piece.invariant pieces more is_open h has in
    let none = c.in_default.ensures g.others g.behind g.has in
    ends pieces more is_open c.loop-piece.in_data c.loop-piece.rest.now c.loop-piece.self g (none.1, none.2)

use Rattle.std.proofs.Common.{◌||◌, sym, ap, subst}
use Rattle.pbn_deals.proofs.PiecesInTurn.{takes_bytes}
use Rattle.whole_texts.proofs.FactsOf.{GoesOn, begins, goes_on, ends}
use Rattle.whole_texts.proofs.piece_facts.add_pieces.Goals as goal

-- src/piece_facts.rt:103:5
pub loop-piece-init : goal.loop-piece-init
loop-piece-init c = λ t pieces more is_open h has. begins c.args.renews t pieces more is_open c.args.before c.args.line.now h has

-- src/piece_facts.rt:103:5
pub loop-piece-smaller : goal.loop-piece-smaller
loop-piece-smaller c = takes_bytes c.loop-piece.in_data c.loop-piece.rest.now c.in-Some.after.now c.in-Some.piece c.in-Some.ensures

-- src/piece_facts.rt:103:5
pub loop-piece-preserved : goal.loop-piece-preserved
loop-piece-preserved c = λ t pieces more is_open h has.
    let g = c.loop-piece.invariant t pieces more is_open h has in
    subst (λ flag. GoesOn c.args.renews t pieces more is_open c.with-facts.result flag c.in-Some.after.now) (sym (ap (λ b. b || c.loop-piece.in_data) c.is_data-in_data.ensures))
    (goes_on c.args.renews t pieces more is_open c.loop-piece.in_data c.loop-piece.rest.now c.in-Some.after.now c.loop-piece.facts c.with-facts.result c.in-Some.piece g (c.in-Some.ensures g.others g.behind g.has) (c.with-facts.ensures t))

-- src/piece_facts.rt:96:1
pub returns : goal.returns
returns c = λ t pieces more is_open h has.
    let g = c.loop-piece.invariant t pieces more is_open h has in
    let none = c.in_default.ensures g.others g.behind g.has in
    ends c.args.renews t pieces more is_open c.loop-piece.in_data c.loop-piece.rest.now c.loop-piece.facts g (none.1, none.2)

use Rattle.std.proofs.Common.{◌+◌, List, get_or, drop, subst}
use Rattle.cards.specs.declared.seats.Seat.TheVariants.{North}
use Rattle.cards.specs.declared.suits.Trump.TheVariants.{Nt}
use Rattle.lease_book.specs.declared.events.Grant.{Grant}
use Rattle.audits.proofs.GiveUpLaws.{Frees, frees_more, drop_next}
use Rattle.audits.proofs.publishing.give_up_all.Goals as goal

pub loop-grant-preserved : goal.loop-grant-preserved
loop-grant-preserved c =
    let index = c.loop-grant.grant-index in
    let kept = c.args.kept.now in
    let none : Grant = record { lease = 0; entry = record { board = 0; declarer = North; trump = Nt }; deadline = 0 } in
    frees_more c.args.book.now c.loop-grant.book c.give_up.new.self c.args.now (get_or kept index none) (drop (index + 1) kept)
    (subst (λ (rest : List Grant). Frees c.args.book.now c.loop-grant.book c.args.now rest) (drop_next kept index none c.loop-grant-test.true) c.loop-grant.invariant)
    c.in_ok-_reply._reply c.in_ok-_reply.ensures.ok

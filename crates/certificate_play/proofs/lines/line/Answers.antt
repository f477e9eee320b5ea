use Rattle.std.proofs.Common.{◌≡◌, ℕ, ◌+◌, ◌≤◌, List, sym, ◌∙◌, ap, arith}
use Rattle.cards.specs.declared.seats.Side.{Side}
use Rattle.cards.specs.declared.seats.Side.TheVariants.{NorthSouth, EastWest}
use Rattle.cards.specs.declared.pack.Card.{Card}
use Rattle.cards.specs.Seats.{other_side}
use Rattle.cards.specs.Deal.{size_of}
use Rattle.play_rules.specs.History.{Opening, tricks_of}
use Rattle.play_rules.specs.Legal.{IsPlay}
use Rattle.strategies.proofs.LawProofs.{share}
use Rattle.strategies.proofs.SearchProofs.{no_turn-over}
use Rattle.certificate_play.proofs.lines.line.Goals as goal

-- two sides that have all the tricks have no more than they promised
no_more : (opening : Opening) (history : List Card) (one other : Side) (promised others : ℕ) → other ≡ other_side one → IsPlay opening history → promised ≤ tricks_of one opening.trump opening.leader history →
    others ≤ tricks_of other opening.trump opening.leader history → promised + others ≡ size_of opening.deal → tricks_of one opening.trump opening.leader history ≡ promised
no_more opening history NorthSouth other promised others is play has has' all =
    omega (arith, share opening history play, has, has', all, ap (λ (s : Side). tricks_of s opening.trump opening.leader history) is)
no_more opening history EastWest other promised others is play has has' all =
    omega (arith, share opening history play, has, has', all, ap (λ (s : Side). tricks_of s opening.trump opening.leader history) is)

pub returns-clause-exactly : goal.returns-clause-exactly
returns-clause-exactly c = λ all.
    let is = c.loop-seat.invariant in
    let one = c.loop-seat.one in
    let other = c.loop-seat.other in
    let opening = one.position.opening in
    let history = one.position.history in
    let play : IsPlay opening history = record { legal = c.turn.ensures.reached.legal; whole = no_turn-over one.position c.turn.ensures.reached (sym c.turn.ensures.turn ∙ c.in_default.is) } in
    let others = rw is.same at c.invariant-2.ensures.kept in
    let sides = is.other_side ∙ (c.requires.sides ∙ ap other_side (sym is.one_side)) in
    let exact = no_more opening history one.side other.side one.tricks other.tricks sides play (c.invariant.ensures.kept play) (others play)
    (omega (arith, all, is.one_tricks, is.other_tricks, ap (λ (o : Opening). size_of o.deal) is.opening)) in
    ap (tricks_of c.args.one.side c.args.one.position.opening.trump c.args.one.position.opening.leader) is.cards
    ∙ (ap (λ (o : Opening). tricks_of c.args.one.side o.trump o.leader history) (sym is.opening)
    ∙ (ap (λ (s : Side). tricks_of s opening.trump opening.leader history) (sym is.one_side) ∙ (exact ∙ is.one_tricks)))

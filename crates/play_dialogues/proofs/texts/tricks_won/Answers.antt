use denote.Enum.Bare.{sameb}
use Rattle.std.proofs.Common.{ℕ, ◌-◌, ◌/◌, List, length, ◌∙◌, ap, arith}
use Rattle.cards.specs.contracts.seats.Side.{the_type}
use Rattle.cards.specs.declared.pack.Card.{Card}
use Rattle.play_dialogues.proofs.SeatLaws.{other_tricks, tricks_within}
use Rattle.play_dialogues.proofs.texts.tricks_won.Goals as goal

pub overflow_sub-result : goal.overflow_sub-result
overflow_sub-result c =
    let promise = c.args.playing.now in
    let opening = promise.position.opening in
    omega (arith, tricks_within opening.trump opening.leader promise.position.history promise.side, c.won-else-eq.ensures.won, ap length c.history.ensures)

pub returns-else-eq : goal.returns-else-eq
returns-else-eq c =
    let promise = c.args.playing.now in
    let opening = promise.position.opening in
    let history = promise.position.history in
    ap (λ (h : List Card). length h / 4 - c.won-else-eq.result) c.history.ensures
    ∙ (ap (λ (n : ℕ). length history / 4 - n) c.won-else-eq.ensures.won
    ∙ other_tricks opening.trump opening.leader history c.args.side promise.side (c.if-eq.ensures ∙ ap (sameb the_type c.args.side) c.side.ensures))

use Rattle.std.proofs.Common.{List, length, sym, ◌∙◌, ap, arith}
use Rattle.cards.specs.declared.pack.Card.{Card}
use Rattle.cards.specs.Seats.{seat_in_place}
use Rattle.play_rules.specs.History.{leader_after}
use Rattle.play_dialogues.proofs.SeatLaws.{turn_of_trick, trick_is_short}
use Rattle.play_dialogues.proofs.texts.leader_of.Goals as goal

pub leader_before-requires : goal.leader_before-requires
leader_before-requires c =
    omega (arith, trick_is_short c.args.playing.now.position.history, ap length c.trick.ensures)

pub returns : goal.returns
returns c =
    let position = c.args.playing.now.position in
    let leader = leader_after position.opening.trump position.opening.leader position.history in
    c.leader_before.ensures leader
    (turn_of_trick position c.args.seat c.requires ∙ ap (λ (h : List Card). seat_in_place leader (length h)) (sym c.trick.ensures))

use Rattle.std.proofs.Common.{◌≡◌, refl, ap, ◌∙◌}
use Rattle.cards.specs.Seats.{seat_in_place}
use Rattle.play_rules.specs.Winners.{winner_of, winning_place}
use Rattle.play_rules.specs.History.{trick_made}
use Rattle.play_rules.proofs.TrickLaws.{winning_place-le, winning_place-wins, one_winning_place}
use Rattle.play_rules.proofs.tricks.winner.Goals as goal

place_is : (c : goal.After-seat_at) → c.place_of_greatest-place.result ≡ winning_place c.args.trump (trick_made c.args.first c.args.second c.args.third c.args.fourth)
place_is c = rw (c.place_of_greatest-place.ensures.place, c.height_in.ensures, c.height_in-2.ensures, c.height_in-3.ensures, c.height_in-4.ensures, c.deciding-suit.ensures) refl

pub returns-clause-winner : goal.returns-clause-winner
unfolding winner_of
returns-clause-winner c = c.seat_at.ensures ∙ ap (seat_in_place c.args.leader) (place_is c)

pub returns-clause-highest : goal.returns-clause-highest
returns-clause-highest c =
    let trick = trick_made c.args.first c.args.second c.args.third c.args.fourth in
    (winning_place c.args.trump trick, winning_place-le c.args.trump trick, c.seat_at.ensures ∙ ap (seat_in_place c.args.leader) (place_is c), winning_place-wins c.args.trump trick)

pub returns-clause-no_other : goal.returns-clause-no_other
returns-clause-no_other c = λ apart place within wins.
    let trick = trick_made c.args.first c.args.second c.args.third c.args.fourth in
    let same : winning_place c.args.trump trick ≡ place = one_winning_place c.args.trump trick (winning_place c.args.trump trick) place apart (winning_place-le c.args.trump trick) within (winning_place-wins c.args.trump trick) wins in
    c.seat_at.ensures ∙ ap (seat_in_place c.args.leader) (place_is c ∙ same)

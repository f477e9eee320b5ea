use Rattle.std.proofs.Common.{◌≡◌, ℕ, ◌-◌, ◌%◌, List, take, drop, ◌∙◌, ap, arith}
use Rattle.cards.specs.declared.pack.Card.{Card}
use Rattle.cards.specs.declared.seats.Side.TheVariants.{NorthSouth, EastWest}
use Rattle.cards.specs.Deal.{Deal, size_of}
use Rattle.play_rules.specs.History.{trick_of}
use Rattle.play_values.specs.PlayValues.{first_cards}
use Rattle.play_values.specs.Rests.{rest_opening}
use Rattle.certified_plays.proofs.ClaimLaws.{same_claim, side_shown, side_fault, trick_cards}
use Rattle.certified_plays.proofs.judging.check_claim.Goals as goal

pub returns-in-Err : goal.returns-in-Err
returns-in-Err c =
    let play = c.args.play.now in
    let opening = play.position.opening in
    let history = first_cards play c.args.count in
    let rest = c.args.rest.now in
    let start : ℕ = c.args.count - c.args.count % 4 in
    side_fault c.args.proofs.now opening history NorthSouth c.args.claim.tricks c.args.claim.ns _ c.in-Err.fault
    (same_claim (rest_opening opening history) (trick_of history) _ rest.layout rest.leader c.trump.result opening.trump NorthSouth c.saturating_sub.result _ c.requires.rest.opening_is c.trump.ensures
    (ap (λ (cards : List Card). take (c.args.count - start) (drop start cards)) c.cards.ensures ∙ trick_cards play.position.history c.args.count c.requires.within)
    (c.saturating_sub.ensures ∙ ap (λ (n : ℕ). c.args.claim.tricks - n) c.requires.rest.north_south)) c.in-Err.ensures

pub returns-in-Ok : goal.returns-in-Ok
returns-in-Ok c =
    let play = c.args.play.now in
    let opening = play.position.opening in
    let history = first_cards play c.args.count in
    let rest = c.args.rest.now in
    let start : ℕ = c.args.count - c.args.count % 4 in
    let size : c.len-size.result ≡ size_of opening.deal = c.len-size.ensures.size ∙ ap (λ (d : Deal). size_of d) c.layout.ensures in
    let trick = ap (λ (cards : List Card). take (c.args.count - start) (drop start cards)) c.cards.ensures ∙ trick_cards play.position.history c.args.count c.requires.within in
    record {
      within = omega (arith, c.if-claim-size.false, size);
      north_south = side_shown c.args.proofs.now opening history NorthSouth c.args.claim.tricks c.args.claim.ns _
          (same_claim (rest_opening opening history) (trick_of history) _ rest.layout rest.leader c.trump.result opening.trump NorthSouth c.saturating_sub.result _ c.requires.rest.opening_is c.trump.ensures trick
          (c.saturating_sub.ensures ∙ ap (λ (n : ℕ). c.args.claim.tricks - n) c.requires.rest.north_south)) c.in_default.ensures;
      east_west = side_shown c.args.proofs.now opening history EastWest (size_of opening.deal - c.args.claim.tricks) c.args.claim.ew _
          (same_claim (rest_opening opening history) (trick_of history) _ rest.layout rest.leader c.trump.result opening.trump EastWest c.saturating_sub-2.result _ c.requires.rest.opening_is c.trump.ensures trick
          (c.saturating_sub-2.ensures
          ∙ (ap (λ (n : ℕ). n - c.args.claim.tricks - rest.east_west) size ∙ ap (λ (n : ℕ). size_of opening.deal - c.args.claim.tricks - n) c.requires.rest.east_west))) c.in-Ok.ensures;
    }

pub returns-in-Err-check : goal.returns-in-Err-check
returns-in-Err-check c =
    let play = c.args.play.now in
    let opening = play.position.opening in
    let history = first_cards play c.args.count in
    let rest = c.args.rest.now in
    let start : ℕ = c.args.count - c.args.count % 4 in
    let size : c.len-size.result ≡ size_of opening.deal = c.len-size.ensures.size ∙ ap (λ (d : Deal). size_of d) c.layout.ensures in
    side_fault c.args.proofs.now opening history EastWest (size_of opening.deal - c.args.claim.tricks) c.args.claim.ew _ c.in-Err-check.fault
    (same_claim (rest_opening opening history) (trick_of history) _ rest.layout rest.leader c.trump.result opening.trump EastWest c.saturating_sub-2.result _ c.requires.rest.opening_is c.trump.ensures
    (ap (λ (cards : List Card). take (c.args.count - start) (drop start cards)) c.cards.ensures ∙ trick_cards play.position.history c.args.count c.requires.within)
    (c.saturating_sub-2.ensures
    ∙ (ap (λ (n : ℕ). n - c.args.claim.tricks - rest.east_west) size ∙ ap (λ (n : ℕ). size_of opening.deal - c.args.claim.tricks - n) c.requires.rest.east_west))) c.in-Err-check.ensures

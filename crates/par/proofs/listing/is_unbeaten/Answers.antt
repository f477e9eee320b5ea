use Rattle.std.proofs.Common.{◌≡◌, ◌∙◌, subst, arith}
use Rattle.std.specs.Prelude.{◌≤ℤ◌, ◌<ℤ◌, Some}
use Rattle.std.proofs.lemmas.Int.{ints}
use Rattle.par.specs.Bids.{bid_number, Supersedes}
use Rattle.par.proofs.BidLaws.{in_order, bid_number-below}
use Rattle.cards.specs.Seats.{other_side}
use Rattle.par.specs.Boards.{tricks_in}
use Rattle.par.specs.FinalScores.{final_score, gain_of}
use Rattle.par.proofs.StepLaws.{kept}
use Rattle.par.proofs.ListLaws.{one_more_bid, better_apart}
use Rattle.par.proofs.listing.is_unbeaten.Goals as goal

pub loop-number-init : goal.loop-number-init
loop-number-init c bid low high = absurd (omega (arith, c.number-number.ensures.place))

pub loop-number-preserved : goal.loop-number-preserved
loop-number-preserved c =
    let final = final_score (tricks_in c.args.tricks.now) c.args.vulnerable in
    let gain = kept c.gain_of-gain.result in
    let here : c.final_score.result ≤ℤ gain = grind (arith, ints) in
    one_more_bid (λ bid. final (record { side = c.other-side.result; bid = bid }) ≤ℤ gain) (bid_number c.args.contract.bid)
    c.loop-number.number c.at-bid.result c.at-bid.ensures (subst (λ x. x ≤ℤ gain) c.final_score.ensures.points here)
    c.loop-number.invariant

pub returns-then-final_score-gain : goal.returns-then-final_score-gain
returns-then-final_score-gain c unbeaten =
    let higher : Supersedes c.at-bid.result c.args.contract.bid =
    (in_order c.at-bid.result c.args.contract.bid).1
    (omega (arith, c.at-bid.ensures, c.loop-number.auto.number, c.number-number.ensures.place))
    in
    let final = final_score (tricks_in c.args.tricks.now) c.args.vulnerable in
    let others = other_side c.args.contract.side in
    let theirs : c.final_score.result ≡ final (record { side = others; bid = c.at-bid.result }) =
    rw c.other-side.ensures at c.final_score.ensures.points
    in
    let own : c.gain_of-gain.result ≡ gain_of final others (Some c.args.contract) =
    rw c.other-side.ensures at c.gain_of-gain.ensures
    in
    let better : c.gain_of-gain.result <ℤ c.final_score.result = grind (arith, ints) in
    better_apart _ _ _ _ theirs own better (unbeaten c.at-bid.result higher)

pub returns : goal.returns
returns c higher supersedes =
    let final = final_score (tricks_in c.args.tricks.now) c.args.vulnerable in
    let others = other_side c.args.contract.side in
    let above = (in_order higher c.args.contract.bid).0 supersedes in
    let most = c.loop-number.invariant higher above (omega (arith, bid_number-below higher)) in
    let same : kept c.gain_of-gain.result ≡ c.gain_of-gain.result = omega (arith, ints) in
    let own : c.gain_of-gain.result ≡ gain_of final others (Some c.args.contract) =
    rw c.other-side.ensures at c.gain_of-gain.ensures
    in
    let theirs = rw c.other-side.ensures at most in
    subst (λ x. final (record { side = others; bid = higher }) ≤ℤ x) (same ∙ own) theirs

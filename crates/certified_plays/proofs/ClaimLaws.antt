-- What a shown claim says of a play.
use Rattle.std.proofs.Common.{◌≡◌, ℕ, ◌+◌, ◌-◌, ◌%◌, ◌≤◌, List, [], ◌++◌, length, take, drop, Option, sym, ◌∙◌, ap, subst, arith, length-take, length-append}
use Rattle.std.proofs.lemmas.List.{drop-take}
use Rattle.cards.specs.declared.suits.Trump.{Trump}
use Rattle.cards.specs.declared.seats.Seat.{Seat}
use Rattle.cards.specs.declared.seats.Side.{Side}
use Rattle.cards.specs.declared.seats.Side.TheVariants.{NorthSouth, EastWest}
use Rattle.cards.specs.declared.pack.Card.{Card}
use Rattle.cards.specs.Deal.{Deal, size_of, IsLayout}
use Rattle.play_rules.specs.History.{Opening, trick_of}
use Rattle.play_rules.specs.Legal.{IsLegalHistory, IsUnfinished}
use Rattle.strategies.specs.Strategies.{CanWin}
use Rattle.strategies.proofs.Counting.{IsLayout-after}
use Rattle.certificate_graph.specs.Graphs.{IsGraph}
use Rattle.card_values.specs.AfterClaims.{AfterClaim, ShowsAfter, IsAfterFault}
use Rattle.card_values.specs.declared.faults.AfterFault.{AfterFault}
use Rattle.card_values.proofs.ShowLaws.{shown_wins}
use Rattle.play_claims.specs.declared.claims.PlayClaim.{PlayClaim}
use Rattle.play_values.specs.PlayValues.{IsPlayValue}
use Rattle.play_values.specs.Rests.{whole_tricks, rest_opening}
use Rattle.play_values.proofs.LegalLaws.{first_is_legal}
use Rattle.play_values.proofs.RestLaws.{later_is_legal, wins_the_rest_after}
use Rattle.play_values.proofs.WholeLaws.{whole_is_whole, trick_is, then_the_trick, all_won_before}
use Rattle.certified_plays.specs.declared.proofs.PlayProofs.{PlayProofs}
use Rattle.certified_plays.specs.Proofs.{graph_of, node_named, side_claim, ShowsSide, IsSideFault}
use Rattle.certified_plays.specs.Judging.{IsShownClaim, tricks_of_side}

-- the claim that the code makes
pub same_claim : (rest : Opening) (trick cards : List Card) (deal : Deal) (leader : Seat) (trump trump' : Trump) (side : Side) (need need' : ℕ) → record { deal = deal; leader = leader; trump = trump' } ≡ rest → trump ≡ trump' → cards ≡ trick → need ≡ need' →
    ◌≡◌ {A = AfterClaim} (record { opening = record { deal = deal; leader = leader; trump = trump }; history = cards; side = side; need = need }) (record { opening = rest; history = trick; side = side; need = need' })
same_claim rest trick cards deal leader trump trump' side need need' a b c d = cc

pub side_shown : (proofs : PlayProofs) (opening : Opening) (history : List Card) (side : Side) (tricks : ℕ) (number : Option ℕ) (claim : AfterClaim) → claim ≡ side_claim opening history side tricks → ShowsAfter (graph_of proofs side) claim (node_named proofs side number) → ShowsSide proofs opening history side tricks number
side_shown proofs opening history side tricks number claim same = subst (λ (c : AfterClaim). ShowsAfter (graph_of proofs side) c (node_named proofs side number)) same

pub side_fault : (proofs : PlayProofs) (opening : Opening) (history : List Card) (side : Side) (tricks : ℕ) (number : Option ℕ) (claim : AfterClaim) (fault : AfterFault) → claim ≡ side_claim opening history side tricks → IsAfterFault (graph_of proofs side) claim (node_named proofs side number) fault → IsSideFault proofs opening history side tricks number fault
side_fault proofs opening history side tricks number claim fault same = subst (λ (c : AfterClaim). IsAfterFault (graph_of proofs side) c (node_named proofs side number) fault) same

-- the cards after the whole tricks
pub trick_cards : (history : List Card) (count : ℕ) → count ≤ length history → take (count - (count - count % 4)) (drop (count - count % 4) history) ≡ trick_of (take count history)
trick_cards history count within =
    let size : length (take count history) ≡ count = length-take count history ∙ omega (arith, within) in
    let back : count - count % 4 + (count - (count - count % 4)) ≡ count = omega arith in
    sym (drop-take (count - count % 4) (count - (count - count % 4)) history)
    ∙ (ap (λ (n : ℕ). drop (count - count % 4) (take n history)) back
    ∙ (ap (λ (n : ℕ). drop (n - n % 4) (take count history)) (sym size) ∙ sym (trick_is (take count history))))

module _ (proofs : PlayProofs) (opening : Opening) (history : List Card) (layout : IsLayout opening.deal) (legal : IsLegalHistory opening history) (unfinished : IsUnfinished opening history) where
  both_legal : IsLegalHistory opening (whole_tricks history ++ trick_of history)
  both_legal = subst (λ (h : List Card). IsLegalHistory opening h) (sym (then_the_trick history)) legal

  rest_layout : IsLayout (rest_opening opening history).deal
  rest_layout =
      IsLayout-after opening (whole_tricks history) layout (first_is_legal opening [] (whole_tricks history) (trick_of history) both_legal) (whole_is_whole history)
      (omega (arith, unfinished, length-append (whole_tricks history) (trick_of history), ap length (then_the_trick history)))

  side_wins : (side : Side) (tricks : ℕ) (number : Option ℕ) → IsGraph (graph_of proofs side) → ShowsSide proofs opening history side tricks number → CanWin opening side tricks history
  side_wins side tricks number is shows =
      let rest = shown_wins (graph_of proofs side) (side_claim opening history side tricks) (node_named proofs side number) is rest_layout (later_is_legal opening (whole_tricks history) (trick_of history) both_legal (whole_is_whole history)) shows in
      subst (λ (h : List Card). CanWin opening side tricks h) (then_the_trick history)
      ((wins_the_rest_after opening side tricks (whole_tricks history) (trick_of history) layout both_legal (whole_is_whole history)).1
      (subst (λ (n : ℕ). CanWin (rest_opening opening history) side (tricks - n) (trick_of history)) (all_won_before opening side history) rest))

  pub value_shown : (declarers : Side) (claim : PlayClaim) → IsGraph (graph_of proofs NorthSouth) → IsGraph (graph_of proofs EastWest) → IsShownClaim proofs opening history claim →
      IsPlayValue opening declarers history (tricks_of_side declarers (size_of opening.deal) claim.tricks)
  value_shown NorthSouth claim ns ew shown = record {
    within = shown.within;
    declarers_win = side_wins NorthSouth claim.tricks claim.ns ns shown.north_south;
    defenders_win = side_wins EastWest (size_of opening.deal - claim.tricks) claim.ew ew shown.east_west;
  }
  value_shown EastWest claim ns ew shown =
      let back : claim.tricks ≡ size_of opening.deal - (size_of opening.deal - claim.tricks) = omega (arith, shown.within) in
      record {
        within = omega arith;
        declarers_win = side_wins EastWest (size_of opening.deal - claim.tricks) claim.ew ew shown.east_west;
        defenders_win = subst (λ (n : ℕ). CanWin opening NorthSouth n history) back (side_wins NorthSouth claim.tricks claim.ns ns shown.north_south);
      }

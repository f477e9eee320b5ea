-- The first claim, and a fault of a claim after it.
use Rattle.std.proofs.Common.{◌≡◌, List, [], ◌∷◌, Some, ap}
use Rattle.std.specs.List.{slice_get}
use Rattle.std.proofs.lemmas.Option.{none-some, same_Some}
use Rattle.play_rules.specs.Position.{Position}
use Rattle.certificate_graph.specs.declared.card_claims.CardClaim.{CardClaim}
use Rattle.card_values.specs.declared.claims.CardGraphs.{CardGraphs}
use Rattle.best_cards.specs.declared.faults.BestFault.{BestFault}
use Rattle.best_cards.specs.declared.faults.BestFault.TheVariants.{NoClaim, TricksTooLarge, Player, Others}
use Rattle.best_cards.specs.Judging.{IsReachFault, IsBestFault}

first_is : (claims : List CardClaim) (first : CardClaim) → slice_get claims 0 ≡ Some first → (rest : List CardClaim) × (claims ≡ first ∷ rest)
first_is [] first h = absurd (none-some first h)
first_is (one ∷ rest) first h = (rest, ap (λ (c : CardClaim). c ∷ rest) (same_Some one first h))

-- a fault of the claim for a card
pub reach_fault : (position : Position) (graphs : CardGraphs) (claims : List CardClaim) (first : CardClaim) (fault : BestFault) → slice_get claims 0 ≡ Some first → IsReachFault position graphs claims first.tricks fault → IsBestFault position graphs claims fault
reach_fault position graphs claims first NoClaim h is = absurd is
reach_fault position graphs claims first TricksTooLarge h is = absurd is
reach_fault position graphs claims first (Player card why) h is = let (rest, are) = first_is claims first h in (first, rest, are, is)
reach_fault position graphs claims first (Others why) h is = absurd is

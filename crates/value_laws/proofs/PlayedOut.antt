-- Two strategies can be played against each other, so neither side can reach more than the other leaves it.
use Rattle.std.proofs.Common.{◌≡◌, ℕ, zero, suc, ◌<◌, ◌≤◌, List, [], ◌∷◌, Option, None, Some, refl, sym, ◌∙◌, ap, subst, arith}
use Rattle.std.specs.Prelude.{ℤ, neg_ℤ, ◌≤ℤ◌, IfSome}
use Rattle.std.proofs.lemmas.Int.{ints}
use Rattle.cards.specs.declared.seats.Side.{Side}
use Rattle.cards.specs.declared.seats.Side.TheVariants.{NorthSouth, EastWest}
use Rattle.cards.specs.Seats.{other_side, side_of}
use Rattle.par.specs.declared.bids.Bid.{Bid}
use Rattle.par.specs.declared.contracts.Contract.{Contract}
use Rattle.par.specs.FinalScores.{gain_by, gain_of, final_score}
use Rattle.par.specs.Auctions.{Call, MayBeBid, GoesOn, IsAuction, contract_after, Strategy, IsLawful, FollowsAfter, CanReach}
use Rattle.value_laws.specs.ParLaws.{HasOnePar}
use Rattle.par.proofs.IntLaws.{neg-neg}
use Rattle.value_laws.proofs.IntLaws.{le-both}
use Rattle.par.proofs.Ladder.{above_of, above_of-below, above_of-less}

-- what one side gains the other loses
gain-minus : (side : Side) (x : ℤ) → gain_by EastWest side x ≡ neg_ℤ (gain_by NorthSouth side x)
gain-minus NorthSouth x = refl
gain-minus EastWest x = sym (neg-neg x)

gain_of-minus : (final : Contract → ℤ) (contract : Option Contract) →
    gain_of final EastWest contract ≡ neg_ℤ (gain_of final NorthSouth contract)
gain_of-minus final None = refl
gain_of-minus final (Some contract) = gain-minus contract.side (final contract)

-- how many bids may still be made
abbrev room_of : Option Bid → ℕ
room_of None = 35
room_of (Some last) = above_of last

fewer : (last : Option Bid) (bid : Bid) → MayBeBid last bid → above_of bid < room_of last
fewer None bid may = omega (arith, above_of-below bid)
fewer (Some last) bid may = above_of-less bid last may

module _ (north east : Strategy) (north_lawful : IsLawful north) (east_lawful : IsLawful east) where
  abbrev strategy_of : Side → Strategy
  strategy_of NorthSouth = north
  strategy_of EastWest = east

  lawful_of : (side : Side) → IsLawful (strategy_of side)
  lawful_of NorthSouth = north_lawful
  lawful_of EastWest = east_lawful

  -- the calls that both make
  record Played (turn : Side) (last : Option Bid) : Type 0 where
    calls : List Call
    goes : GoesOn last calls
    north_follows : FollowsAfter NorthSouth north turn last calls
    east_follows : FollowsAfter EastWest east turn last calls

  pub record PlayedOut (dealer : Side) : Type 0 where
    pub calls : List Call
    pub auction : IsAuction calls
    pub north_follows : FollowsAfter NorthSouth north dealer None calls
    pub east_follows : FollowsAfter EastWest east dealer None calls

  -- the call of the side whose turn it is
  own_call : (side turn : Side) (last : Option Bid) (call : Call) → call ≡ strategy_of turn last → turn ≡ side → call ≡ strategy_of side last
  own_call side turn last call e same = e ∙ ap (λ s. strategy_of s last) same

  made : (turn : Side) (last : Option Bid) (bid : Bid) → Some bid ≡ strategy_of turn last → MayBeBid last bid
  made turn last bid e = subst (λ (call : Call). IfSome call (MayBeBid last)) (sym e) (lawful_of turn last)

  -- one call, and what is called after it
  step : (turn : Side) (last : Option Bid) → ((bid : Bid) → MayBeBid last bid → Played (other_side turn) (Some bid)) → Played turn last
  step turn last more = go (strategy_of turn last) refl
    where
      go : (call : Call) → call ≡ strategy_of turn last → Played turn last
      go None e = record {
        calls = None ∷ [];
        goes = refl;
        north_follows = (own_call NorthSouth turn last None e, tt);
        east_follows = (own_call EastWest turn last None e, tt);
      }
      go (Some bid) e =
          let may = made turn last bid e in
          let rest = more bid may in
          record {
            calls = Some bid ∷ rest.calls;
            goes = (may, rest.goes);
            north_follows = (own_call NorthSouth turn last (Some bid) e, rest.north_follows);
            east_follows = (own_call EastWest turn last (Some bid) e, rest.east_follows);
          }

  play : (room : ℕ) (turn : Side) (last : Option Bid) → room_of last ≤ room → Played turn last
  play zero turn last small = step turn last (λ bid may. absurd (omega (arith, fewer last bid may)))
  play (suc room) turn last small =
      step turn last (λ bid may. play room (other_side turn) (Some bid) (omega (arith, fewer last bid may)))

  -- from the dealer's first call on
  pub play_out : (dealer : Side) → PlayedOut dealer
  play_out dealer = go (strategy_of dealer None) refl
    where
      go : (call : Call) → call ≡ strategy_of dealer None → PlayedOut dealer
      go None e =
          let rest = play 35 (other_side dealer) None (omega arith) in
          record {
            calls = None ∷ rest.calls;
            auction = rest.goes;
            north_follows = (own_call NorthSouth dealer None None e, rest.north_follows);
            east_follows = (own_call EastWest dealer None None e, rest.east_follows);
          }
      go (Some bid) e =
          let rest = play 35 (other_side dealer) (Some bid) (omega arith) in
          record {
            calls = Some bid ∷ rest.calls;
            auction = (tt, rest.goes);
            north_follows = (own_call NorthSouth dealer None (Some bid) e, rest.north_follows);
            east_follows = (own_call EastWest dealer None (Some bid) e, rest.east_follows);
          }

-- North and South reach no more than East and West leave them
pub reach-bound : (final : Contract → ℤ) (dealer : Side) (one other : ℤ) →
    CanReach final dealer NorthSouth one → CanReach final dealer EastWest (neg_ℤ other) → one ≤ℤ other
reach-bound final dealer one other north east =
    let out = play_out north.strategy east.strategy north.lawful east.lawful dealer in
    let contract = contract_after dealer None out.calls in
    let gain : one ≤ℤ gain_of final NorthSouth contract = north.enough out.calls out.auction out.north_follows in
    let hold : neg_ℤ other ≤ℤ gain_of final EastWest contract = east.enough out.calls out.auction out.east_follows in
    let minus = gain_of-minus final contract in
    omega (arith, ints)

pub one_par : HasOnePar
one_par tricks dealer vulnerable one other par par' =
    let final = final_score tricks vulnerable in
    le-both one other
    (reach-bound final (side_of dealer) one other par.north_south par'.east_west)
    (reach-bound final (side_of dealer) other one par'.north_south par.east_west)

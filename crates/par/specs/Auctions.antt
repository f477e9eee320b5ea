-- The bidding as a game of two sides that see all cards. They call in turn, the dealer's side first. Nothing here knows
-- of a search or of a best bid.
use Rattle.std.specs.Prelude.{◌≡◌, List, [], ◌∷◌, Option, None, Some, IfSome, ℤ, ◌≤ℤ◌}
use Rattle.cards.specs.declared.seats.Side.{Side}
use Rattle.cards.specs.Seats.{other_side}
use Rattle.par.specs.declared.bids.Bid.{Bid}
use Rattle.par.specs.Bids.{Supersedes}
use Rattle.par.specs.declared.contracts.Contract.{Contract}
use Rattle.par.specs.FinalScores.{gain_of}

-- a call of a side: a bid, or `None`, by which it passes: it accepts the last contract, if there is one
abbrev pub Call : Type 0
Call = Option Bid

-- the bid may be made over the last one, if there is one: it supersedes it (Law 18B)
abbrev pub MayBeBid : Option Bid → Bid → Type 0
MayBeBid None bid = Unit {0}
MayBeBid (Some last) bid = Supersedes bid last

-- the last bid after one more call
abbrev pub last_after : Option Bid → Call → Option Bid
last_after last None = last
last_after last (Some bid) = Some bid

-- With these calls the auction goes on after the last bid, and ends: bids, each over the one before, and a pass.
abbrev pub GoesOn : Option Bid → List Call → Type 0
GoesOn last [] = ⊥
GoesOn last (None ∷ calls) = calls ≡ []
GoesOn last (Some bid ∷ calls) = MayBeBid last bid × GoesOn (Some bid) calls

-- A whole auction. If the dealer's side passes, the other side may still bid; if it passes too, nobody scores.
abbrev pub IsAuction : List Call → Type 0
IsAuction [] = ⊥
IsAuction (None ∷ calls) = GoesOn None calls
IsAuction (Some bid ∷ calls) = GoesOn None (Some bid ∷ calls)

-- the last contract after these calls, the first of which is the call of the side whose turn it is
abbrev pub contract_after : Side → Option Contract → List Call → Option Contract
contract_after turn contract [] = contract
contract_after turn contract (None ∷ calls) = contract_after (other_side turn) contract calls
contract_after turn contract (Some bid ∷ calls) =
    contract_after (other_side turn) (Some (record { side = turn; bid = bid })) calls

-- ---- what a side can reach
-- a strategy: what a side calls over each last bid of the others, and what it calls while nobody has bid
abbrev pub Strategy : Type 0
Strategy = Option Bid → Call

-- each bid of the strategy may be made
abbrev pub IsLawful : Strategy → Type 0
IsLawful strategy = (last : Option Bid) → IfSome (strategy last) (MayBeBid last)

-- the calls after the last bid follow the side's strategy: at each turn of the side the call is the strategy's
abbrev pub FollowsAfter : Side → Strategy → Side → Option Bid → List Call → Type 0
FollowsAfter side strategy turn last [] = Unit {0}
FollowsAfter side strategy turn last (call ∷ calls) =
    (turn ≡ side → call ≡ strategy last)
    × FollowsAfter side strategy (other_side turn) (last_after last call) calls

-- The side can reach this gain: it has a strategy that gains at least this much in every auction, whatever the other
-- side calls. Here `dealer` is the dealer's side.
pub record CanReach (final : Contract → ℤ) (dealer side : Side) (gain : ℤ) : Type 0 where
  pub strategy : Strategy
  pub lawful : IsLawful strategy
  pub enough :
      (calls : List Call) → IsAuction calls → FollowsAfter side strategy dealer None calls
      → gain ≤ℤ gain_of final side (contract_after dealer None calls)

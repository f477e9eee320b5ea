-- What the code's claim says.
use Rattle.card_values.specs.declared.after_claims.BegunClaim.{BegunClaim}
use Rattle.card_values.specs.AfterClaims.{AfterClaim}

-- the claim of the layout, the leader, the trump, the cards, the side and the need that it names
abbrev pub claim_of : BegunClaim → AfterClaim
claim_of claim =
    record {
      opening = record { deal = claim.layout.now; leader = claim.leader; trump = claim.trump };
      history = claim.cards.now;
      side = claim.side;
      need = claim.need;
    }

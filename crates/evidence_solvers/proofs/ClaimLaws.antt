-- Claims that were noted, and claims that were found.
use Rattle.std.proofs.Common.{◌≡◌, List, [], ◌∷◌, ◌++◌, Option, Some, Bool, true, false, not, refl, sym, subst}
use Rattle.std.specs.Prelude.{All, Contains, option_to_list}
use Rattle.std.proofs.lemmas.List.Elements.{All-push, Contains-append_left, Contains-append_right, Contains-push}
use Rattle.cards.specs.Deal.{Deal}
use Rattle.cards.specs.declared.seats.Seat.{Seat}
use Rattle.cards.specs.declared.seats.Seat.TheVariants.{North, East, South, West}
use Rattle.cards.specs.declared.suits.Trump.{Trump}
use Rattle.certificate_graph.specs.Bundles.{claim_for}
use Rattle.certificate_graph.specs.declared.bundles.Bundle.{Bundle}
use Rattle.certificate_graph.specs.declared.bundles.Claim.{Claim}
use Rattle.evidence.specs.Sections.{SectionShape, claims_in_order, kept_of}
use Rattle.evidence_solvers.specs.declared.claims.KeptClaim.{KeptClaim}
use Rattle.evidence_solvers.specs.Claims.{IsClaimedIn}

-- a test that was not denied
pub undenied : (test : Bool) → false ≡ not test → test ≡ true
undenied true denied = refl
undenied false denied = cc

-- ---- the claims of a section
only : (found : Option Claim) (claim : Claim) → found ≡ Some claim → Contains (option_to_list found) claim
only found claim is = rw is (Contains-push [] claim)

in_order : (claims : List Claim) (seat : Seat) (claim : Claim) → claim_for claims seat ≡ Some claim → Contains (claims_in_order claims) claim
in_order claims North claim is = Contains-append_left (option_to_list (claim_for claims North)) _ claim (only (claim_for claims North) claim is)
in_order claims East claim is =
    Contains-append_right (option_to_list (claim_for claims North)) _ claim
    (Contains-append_left (option_to_list (claim_for claims East)) _ claim (only (claim_for claims East) claim is))
in_order claims South claim is =
    Contains-append_right (option_to_list (claim_for claims North)) _ claim
    (Contains-append_right (option_to_list (claim_for claims East)) _ claim
    (Contains-append_left (option_to_list (claim_for claims South)) _ claim (only (claim_for claims South) claim is)))
in_order claims West claim is =
    Contains-append_right (option_to_list (claim_for claims North)) _ claim
    (Contains-append_right (option_to_list (claim_for claims East)) _ claim
    (Contains-append_right (option_to_list (claim_for claims South)) _ claim (only (claim_for claims West) claim is)))

-- the claim for a declarer was noted
pub noted : (deal : Deal) (trump : Trump) (bundle : Bundle) (declarer : Seat) (claim : Claim) (claims claims' : List KeptClaim) (sections : List SectionShape)
    → claim_for bundle.claims.items declarer ≡ Some claim
    → claims' ≡ claims ++ (record { layout = deal; declarer = claim.declarer; trump = trump; k = claim.k }) ∷ []
    → Contains sections (kept_of deal trump bundle) → All (IsClaimedIn sections) claims
    → All (IsClaimedIn sections) claims'
noted deal trump bundle declarer claim claims claims' sections is are has all =
    let kept : KeptClaim = record { layout = deal; declarer = claim.declarer; trump = trump; k = claim.k } in
    subst (λ (c : List KeptClaim). All (IsClaimedIn sections) c) (sym are) (All-push (IsClaimedIn sections) claims kept all (record {
      section = kept_of deal trump bundle;
      is_one = has;
      claims = record {
        deal_is = refl;
        trump_is = refl;
        claim = claim;
        claimed = in_order bundle.claims.items declarer claim is;
        declarer_is = refl;
        tricks_are = refl;
      };
    }))

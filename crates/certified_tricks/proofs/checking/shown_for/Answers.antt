-- A claim that was refused is that of the bundle.
use Rattle.std.proofs.Common.{◌≡◌, ℕ, ◌∙◌, subst}
use Rattle.cards.specs.declared.seats.Side.{Side}
use Rattle.cards.specs.declared.seats.Side.TheVariants.{NorthSouth, EastWest}
use Rattle.cards.specs.declared.seats.Seat.{Seat}
use Rattle.cards.specs.declared.suits.Trump.{Trump}
use Rattle.cards.specs.Deal.{Deal}
use Rattle.cards.specs.Seats.{side_of, other_side}
use Rattle.certificate_graph.specs.declared.bundles.Bundle.{Bundle}
use Rattle.certificate_graph.specs.declared.bundles.Claim.{Claim}
use Rattle.certificate_graph.specs.Bundles.{graph_of}
use Rattle.checker.specs.Roots.{RootedShape}
use Rattle.checker.specs.Witnesses.{rooted_shape}
use Rattle.checker.specs.declared.claims.Claimed.{Claimed}
use Rattle.checker.specs.declared.pairs.CheckedPair.{CheckedPair}
use Rattle.checker.specs.declared.entry_faults.EntryFault.{EntryFault}
use Rattle.checker.specs.EntryFaults.{IsEntryFault}
use Rattle.checker.specs.Pairs.{IsClaimedOf, IsPairOf, graph_in}
use Rattle.certified_tricks.specs.Searches.{IsRefused, declarers_of, defenders_of}
use Rattle.certified_tricks.proofs.checking.shown_for.Goals as goal

pair_graph : (bundle : Bundle) (pair : CheckedPair) (side : Side) → IsPairOf bundle pair → graph_in pair side ≡ graph_of bundle side
pair_graph bundle pair NorthSouth are = are.ns
pair_graph bundle pair EastWest are = are.ew

refused : (deal : Deal) (declarer : Seat) (trump : Trump) (bundle : Bundle) (pair : CheckedPair) (claim : Claim) (claimed : Claimed) (fault : EntryFault)
    → IsPairOf bundle pair → IsClaimedOf pair claim claimed
    → IsEntryFault deal declarer trump claimed.k (rooted_shape claimed.declarer) (rooted_shape claimed.defenders) fault
    → IsRefused deal trump bundle declarer claim
refused deal declarer trump bundle pair claim claimed fault are is wrong =
    let declarers : rooted_shape claimed.declarer ≡ declarers_of bundle claim =
    cc (is.declarer ∙ pair_graph bundle pair (side_of claim.declarer) are, is.declarer_root) in
    let defenders : rooted_shape claimed.defenders ≡ defenders_of bundle claim =
    cc (is.defenders ∙ pair_graph bundle pair (other_side (side_of claim.declarer)) are, is.defenders_root) in
    let K : ℕ → Type 0 = λ k. IsEntryFault deal declarer trump k (rooted_shape claimed.declarer) (rooted_shape claimed.defenders) fault in
    let D : RootedShape → Type 0 = λ shape. IsEntryFault deal declarer trump claim.k shape (rooted_shape claimed.defenders) fault in
    let F : RootedShape → Type 0 = λ shape. IsEntryFault deal declarer trump claim.k (declarers_of bundle claim) shape fault in
    (fault, subst F defenders (subst D declarers (subst K is.k wrong)))

pub returns : goal.returns
returns c = λ claim first.
    let same : c.in-Some.claim ≡ claim = cc (first, c.claim_for.ensures, c.in-Some.is) in
    let P : Claim → Type 0 = λ those. IsRefused c.args.layout.now c.args.trump c.args.bundle.now c.args.declarer those in
    subst P same
    (refused c.args.layout.now c.args.declarer c.args.trump c.args.bundle.now c.args.pair.now c.in-Some.claim c.in_ok-claimed.claimed
    c.in-Err.field-0 c.requires c.in_ok-claimed.ensures c.in-Err.ensures)

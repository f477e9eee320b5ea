use Rattle.std.proofs.Common.{◌≡◌, ◌≤◌, ℕ, Bool, true, false, leb, IsTrue, ◌↔◌, MatchBool, refl}
use Rattle.std.proofs.lemmas.Bool.{leb-true, leb-false, le-leb, lt-leb}
use Rattle.cards.specs.declared.seats.Seat.TheVariants.{North, East, South, West}
use Rattle.patterns.specs.Shapes.{SuitShape, tops_of, len_of}
use Rattle.patterns.specs.Parts.{HasItsOwners, HasExcessOwner}
use Rattle.patterns.proofs.SeatLaws.{for_each_seat, and_then, and_else}
use Rattle.patterns.proofs.suit_words.SuitWord.tops_fit.Goals as goal
use Rattle.patterns.proofs.suit_words.SuitWord.tops_fit.Goals.{then-tops-len, else-tops-len, then-tops-len-2, else-tops-len-2}

-- a comparison of how often a seat is an owner with its length
told_tops : {told tops stored len : ℕ} → told ≡ tops → stored ≡ len → IsTrue (leb told stored) ↔ (tops ≤ len)
told_tops is is' = (λ h. rw (← is, ← is') (leb-true _ _ h), λ fits. le-leb _ _ (rw (is, is') fits))

-- the last test decides
by_west : (suit : SuitShape) (test : Bool) → test ≡ leb (tops_of suit West) (len_of suit West) → tops_of suit North ≤ len_of suit North → tops_of suit East ≤ len_of suit East → tops_of suit South ≤ len_of suit South → MatchBool test (HasItsOwners suit) (HasExcessOwner suit)
by_west suit true e n e' s = for_each_seat (λ seat. tops_of suit seat ≤ len_of suit seat) n e' s (leb-true _ _ (cc))
by_west suit false e n e' s = (West, leb-false _ _ (cc))

pub returns-then-tops-len-3 : goal.returns-then-tops-len-3
returns-then-tops-len-3 c =
    let suit = c.args.self.now in
    let two : IsTrue c.if-tops-len.value ↔ ((tops_of suit North ≤ len_of suit North) × (tops_of suit East ≤ len_of suit East)) = elim c.if-tops-len.branch [
      | then-tops-len w ↦ and_then (told_tops c.tops.ensures c.len.ensures.len) (told_tops w.tops-then-tops-len.ensures w.len-then-tops-len.ensures.len) (le-leb _ _ w.if-tops-len.true) w.value-is
      | else-tops-len w ↦ and_else (told_tops c.tops.ensures c.len.ensures.len) (lt-leb _ _ w.if-tops-len.false) w.value-is
    ] in
    let three : IsTrue c.if-tops-len-2.value ↔ (((tops_of suit North ≤ len_of suit North) × (tops_of suit East ≤ len_of suit East)) × (tops_of suit South ≤ len_of suit South)) = elim c.if-tops-len-2.branch [
      | then-tops-len-2 w ↦ and_then two (told_tops w.tops-then-tops-len-2.ensures w.len-then-tops-len-2.ensures.len) w.if-tops-len-2.true w.value-is
      | else-tops-len-2 w ↦ and_else two w.if-tops-len-2.false w.value-is
    ] in
    let fits = three.0 c.if-tops-len-3.true in
    rw (c.tops-then-tops-len-3.ensures, c.len-then-tops-len-3.ensures.len) (by_west suit _ refl fits.0.0 fits.0.1 fits.1)

-- The comparison of two seats that the code makes.
use Rattle.std.proofs.Common.{◌≡◌, ◌≢◌, Bool, true, false, not, refl, sym, ◌∙◌, ap}
use Rattle.std.proofs.lemmas.Bool.{false≢true}
use denote.Enum.Bare.{sameb}
use Rattle.cards.specs.contracts.seats.Seat.{the_type}
use Rattle.cards.specs.declared.seats.Seat.{Seat}
use Rattle.cards.specs.Seats.{is_same_seat}
use Rattle.patterns.proofs.SeatLaws.{is_same_seat_self, same_from_is_same, same_seat_test}

pub seats_differ : (one other : Seat) (test : Bool) → test ≡ not (sameb the_type one other) → test ≡ true → one ≢ other
seats_differ one other test is holds same =
    false≢true (sym (is ∙ ap not (same_seat_test one other ∙ (ap (λ (seat : Seat). is_same_seat seat one) (sym same) ∙ is_same_seat_self one))) ∙ holds)

pub seats_agree : (one other : Seat) (test : Bool) → test ≡ not (sameb the_type one other) → test ≡ false → one ≡ other
seats_agree one other test is fails = sym (same_from_is_same other one (sym (same_seat_test one other) ∙ both (sameb the_type one other) (sym is ∙ fails)))
  where
    both : (b : Bool) → not b ≡ false → b ≡ true
    both true h = refl
    both false h = absurd (false≢true (sym h))

pub seats_apart : (one other : Seat) (test : Bool) → test ≡ sameb the_type one other → test ≡ false → one ≢ other
seats_apart one other test is fails same =
    false≢true (sym fails ∙ (is ∙ (same_seat_test one other ∙ (ap (λ (seat : Seat). is_same_seat seat one) (sym same) ∙ is_same_seat_self one))))

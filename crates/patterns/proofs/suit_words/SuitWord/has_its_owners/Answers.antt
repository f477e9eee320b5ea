use Rattle.std.proofs.Common.{ℕ, ◌≡◌, ◌≤◌, List, [], ◌∷◌, length, arith}
use Rattle.std.specs.Prelude.{count_by}
use Rattle.cards.specs.declared.seats.Seat.{Seat}
use Rattle.cards.specs.Seats.{is_same_seat}
use Rattle.patterns.proofs.suit_words.SuitWord.has_its_owners.Goals as goal

-- a list without owners has none of the seat
none_owned : (owners : List Seat) (seat : Seat) (len : ℕ) → length owners ≡ 0 → count_by (is_same_seat seat) owners ≤ len
none_owned [] seat len none = omega arith
none_owned (owner ∷ owners) seat len none = absurd (omega (arith, none))

pub returns-then-owner_count-eq0 : goal.returns-then-owner_count-eq0
returns-then-owner_count-eq0 c = λ seat.
    none_owned c.args.self.now.owners seat _ (omega (arith, c.owner_count.ensures.count, c.if-owner_count-eq0.true))

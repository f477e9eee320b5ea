-- What the seats hold, and what a play and its taking back change. Seats are numbers from North's 0. A number from 4 on
-- means its remainder by 4.
use Rattle.std.specs.Prelude.{◌≡◌, ◌≢◌, ℕ, ◌+◌, ◌*◌, ◌/◌, ◌%◌, ◌^◌, ◌<◌, ◌⊎◌, slice_index_or, slice_set}
use Rattle.partition_search.specs.declared.positions.Holdings.{Holdings}
use Rattle.partition_search.specs.declared.positions.Before.{Before}
use Rattle.partition_search.specs.Cards.{AreWithout}

-- the cards of a seat
abbrev pub hand_of : Holdings → ℕ → ℕ
hand_of held seat = slice_index_or held.hands (seat % 4) 0

-- how many cards of a suit a seat has, four bits each
abbrev pub length_of : ℕ → ℕ → ℕ → ℕ
length_of lengths suit seat = lengths / 2 ^ (16 * suit + 4 * (seat % 4)) % 16

-- what a seat holds, with the lengths of all
abbrev pub before_of : Holdings → ℕ → Before
before_of held seat = record { hand = hand_of held seat; lengths = held.lengths }

-- a seat has that hand again, and the lengths are those again
abbrev pub put_back_to : Holdings → ℕ → Before → Holdings
put_back_to held seat before =
    record { hands = slice_set held.hands (seat % 4) before.hand; lengths = before.lengths }

-- a seat has one card of a suit fewer, and all other lengths stay
pub record HasOneFewer (old new suit seat : ℕ) : Type 0 where
  pub here : length_of new suit seat + 1 ≡ length_of old suit seat
  pub elsewhere : (other player : ℕ) → other < 4 → player < 4 → (other ≢ suit) ⊎ (player ≢ seat % 4)
      → length_of new other player ≡ length_of old other player

-- a seat plays a card: its hand lacks the card then, the other hands stay, and of that suit it has one card fewer
pub record Plays (old new : Holdings) (seat card : ℕ) : Type 0 where
  pub hand : AreWithout (hand_of old seat) card (hand_of new seat)
  pub others : new.hands ≡ slice_set old.hands (seat % 4) (hand_of new seat)
  pub fewer : (bit : ℕ) → card ≡ 2 ^ bit → 0 < length_of old.lengths (bit / 16) seat
      → HasOneFewer old.lengths new.lengths (bit / 16) seat

-- How a deal is printed: `N:` and the hands of North, East, South and West, each four groups between dots, spades
-- first, with the ranks falling (PBN 2.1, section 3.4.11).
use Rattle.std.specs.Prelude.{ℕ, List, [], ◌∷◌, ◌++◌, codes, map, if◌then◌else◌}
use Rattle.std.specs.List.{flat_map, join_with_byte}
use Rattle.cards.specs.declared.suits.Suit.{Suit}
use Rattle.cards.specs.declared.suits.Suit.TheVariants.{Spades, Hearts, Diamonds, Clubs}
use Rattle.cards.specs.declared.seats.Seat.{Seat}
use Rattle.cards.specs.declared.seats.Seat.TheVariants.{North, East, South, West}
use Rattle.cards.specs.declared.pack.Rank.{Rank}
use Rattle.cards.specs.declared.pack.Rank.TheVariants.{Two, Three, Four, Five, Six, Seven, Eight, Nine, Ten, Jack}
use Rattle.cards.specs.declared.pack.Rank.TheVariants.{Queen, King, Ace}
use Rattle.cards.specs.Pack.{rank_letter, card_of}
use Rattle.cards.specs.Deal.{Deal, holder_of, is_held_by}

-- the ranks, the ace first
abbrev pub ranks_falling : List Rank
ranks_falling = Ace ∷ King ∷ Queen ∷ Jack ∷ Ten ∷ Nine ∷ Eight ∷ Seven ∷ Six ∷ Five ∷ Four ∷ Three ∷ Two ∷ []

-- the letter of a card that the seat holds, and nothing for another
abbrev pub held_letter : Deal → Seat → Suit → Rank → List ℕ
held_letter deal seat suit rank =
    if is_held_by seat (holder_of deal (card_of suit rank)) then rank_letter rank else []

-- the letters of the seat's cards in a suit
unfoldable pub group_text : Deal → Seat → Suit → List ℕ
group_text deal seat suit = flat_map (held_letter deal seat suit) ranks_falling

-- a hand: four groups between dots
unfoldable pub hand_text : Deal → Seat → List ℕ
hand_text deal seat = join_with_byte 46 (map (group_text deal seat) (Spades ∷ Hearts ∷ Diamonds ∷ Clubs ∷ []))

-- four hands between spaces
unfoldable pub deal_text : Deal → List ℕ
deal_text deal = codes "N:" ++ join_with_byte 32 (map (hand_text deal) (North ∷ East ∷ South ∷ West ∷ []))

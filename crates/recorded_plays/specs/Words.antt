-- What the values of the tags Play, Declarer and Contract say (PBN 2.1, sections 3.4.12, 3.4.13 and 3.5).
use Rattle.std.specs.Prelude.{ℕ, ◌==◌, ◌&&◌, ◌||◌, Bool, nat_le, List, [], ◌∷◌, length, drop, Option, None, Some, codes}
use Rattle.std.specs.Prelude.{if◌then◌else◌}
use Rattle.std.specs.List.{list_any}
use Rattle.std.specs.Option.{option_map}
use Rattle.cards.specs.declared.suits.Suit.{Suit}
use Rattle.cards.specs.declared.suits.Suit.TheVariants.{Spades, Hearts, Diamonds, Clubs}
use Rattle.cards.specs.declared.suits.Trump.{Trump}
use Rattle.cards.specs.declared.suits.Trump.TheVariants as trump
use Rattle.cards.specs.declared.seats.Seat.{Seat}
use Rattle.cards.specs.Pack.{suit_letter}
use Rattle.pbn_deals.specs.Letters.{is_letter, is_printed_as, seat_of_letter}
use Rattle.pbn_deals.specs.Tags.{is_same_name}

-- what stands before the first byte that is one of these
abbrev pub before_any : List ℕ → List ℕ → List ℕ
before_any signs [] = []
before_any signs (byte ∷ bytes) = if list_any (λ sign. sign == byte) signs then [] else byte ∷ before_any signs bytes

-- the suit that a letter names, in either case
abbrev pub suit_of_letter : ℕ → Option Suit
suit_of_letter byte =
    if is_printed_as (suit_letter Spades) byte then Some Spades else
    (if is_printed_as (suit_letter Hearts) byte then Some Hearts else
    (if is_printed_as (suit_letter Diamonds) byte then Some Diamonds else
    (if is_printed_as (suit_letter Clubs) byte then Some Clubs else
    None)))

-- the seat that a value names: a letter, perhaps after the `^` of an irregular declarer
abbrev pub seat_said : List ℕ → Option Seat
seat_said [] = None
seat_said (letter ∷ []) = seat_of_letter letter
seat_said (caret ∷ letter ∷ []) = if caret == 94 then seat_of_letter letter else None
seat_said (one ∷ two ∷ three ∷ more) = None

-- all four players passed
abbrev pub says_passed_out : List ℕ → Bool
says_passed_out value = is_same_name (codes "PASS") value

-- the denomination that letters name, in either case
abbrev pub denomination_said : List ℕ → Option Trump
denomination_said [] = None
denomination_said (letter ∷ []) =
    if is_letter 78 letter then Some trump.Nt else option_map trump.Suit (suit_of_letter letter)
denomination_said (one ∷ two ∷ []) = if is_letter 78 one && is_letter 84 two then Some trump.Nt else None
denomination_said (one ∷ two ∷ three ∷ more) = None

-- nothing, `X` or `XX`, in either case
abbrev pub is_double : List ℕ → Bool
is_double text = (length text == 0) || (is_same_name (codes "X") text || is_same_name (codes "XX") text)

-- a denomination, and whether the contract is doubled, which says nothing of the play
abbrev pub bid_said : List ℕ → Option Trump
bid_said bid =
    let letters = before_any (codes "Xx") bid in
    if is_double (drop (length letters) bid) then denomination_said letters else None

-- a level from 1 to 7 comes before
abbrev pub trump_said : List ℕ → Option Trump
trump_said [] = None
trump_said (level ∷ bid) = if nat_le 49 level && nat_le level 55 then bid_said bid else None

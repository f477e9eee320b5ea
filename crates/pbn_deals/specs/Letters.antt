-- The bytes of a Deal value: blanks, and the letters of seats and ranks (PBN 2.1, section 3.4.11).
use Rattle.std.specs.Prelude.{ℕ, ◌+◌, ◌==◌, ◌||◌, ◌&&◌, nat_le, Bool, false, List, [], ◌∷◌, Option, None, Some}
use Rattle.std.specs.Prelude.{if◌then◌else◌}
use Rattle.cards.specs.declared.seats.Seat.{Seat}
use Rattle.cards.specs.declared.seats.Seat.TheVariants.{North, East, South, West}
use Rattle.cards.specs.declared.pack.Rank.{Rank}
use Rattle.cards.specs.declared.pack.Rank.TheVariants.{Two, Three, Four, Five, Six, Seven, Eight, Nine, Ten, Jack}
use Rattle.cards.specs.declared.pack.Rank.TheVariants.{Queen, King, Ace}
use Rattle.cards.specs.Pack.{rank_letter}
use Rattle.cards.specs.Seats.{seat_letter}
use Rattle.cards.specs.Bytes as ascii

-- a blank is a space or a tab
abbrev pub is_blank : ℕ → Bool
is_blank byte = (byte == ascii.blank) || (byte == ascii.tab)

-- the dot between two groups of a hand
abbrev pub is_dot : ℕ → Bool
is_dot byte = byte == ascii.dot

-- the letter is this capital, or the small letter of it
abbrev pub is_letter : ℕ → ℕ → Bool
is_letter capital byte = (byte == capital) || (byte == capital + 32)

-- the byte is what is printed, a letter in either case
abbrev pub is_printed_as : List ℕ → ℕ → Bool
is_printed_as [] byte = false
is_printed_as (letter ∷ letters) byte = (byte == letter) || (nat_le 65 letter && (byte == letter + 32))

-- the seat that a letter names, in either case
abbrev pub seat_of_letter : ℕ → Option Seat
seat_of_letter byte =
    if is_printed_as (seat_letter North) byte then Some North else
    (if is_printed_as (seat_letter East) byte then Some East else
    (if is_printed_as (seat_letter South) byte then Some South else
    (if is_printed_as (seat_letter West) byte then Some West else
    None)))

-- the rank that a letter or a digit names, a letter in either case
abbrev pub rank_of_letter : ℕ → Option Rank
rank_of_letter byte =
    if is_printed_as (rank_letter Ace) byte then Some Ace else
    (if is_printed_as (rank_letter King) byte then Some King else
    (if is_printed_as (rank_letter Queen) byte then Some Queen else
    (if is_printed_as (rank_letter Jack) byte then Some Jack else
    (if is_printed_as (rank_letter Ten) byte then Some Ten else
    (if is_printed_as (rank_letter Nine) byte then Some Nine else
    (if is_printed_as (rank_letter Eight) byte then Some Eight else
    (if is_printed_as (rank_letter Seven) byte then Some Seven else
    (if is_printed_as (rank_letter Six) byte then Some Six else
    (if is_printed_as (rank_letter Five) byte then Some Five else
    (if is_printed_as (rank_letter Four) byte then Some Four else
    (if is_printed_as (rank_letter Three) byte then Some Three else
    (if is_printed_as (rank_letter Two) byte then Some Two else
    None))))))))))))

-- What the values of the tags Dealer and Vulnerable say (PBN 2.1, 3.4.9 and 3.4.10).
use Rattle.std.specs.Prelude.{ℕ, ◌+◌, ◌==◌, ◌||◌, ◌&&◌, nat_le, not, Bool, false, List, [], ◌∷◌, Option, None, Some}
use Rattle.std.specs.Prelude.{if◌then◌else◌, codes}
use Rattle.cards.specs.declared.seats.Seat.{Seat}
use Rattle.cards.specs.declared.seats.Seat.TheVariants.{North, East, South, West}
use Rattle.par.specs.declared.vulnerable_sides.VulnerableSides.{VulnerableSides}
use Rattle.par.specs.declared.vulnerable_sides.VulnerableSides.TheVariants.{Neither, NorthSouth, EastWest, Both}
use Rattle.pbn_deals.specs.DealValue.{after_blanks}
use Rattle.pbn_deals.specs.Lines.{is_blank_line}

-- ---- words
-- the byte is this one, or the small letter of this capital
abbrev pub is_in_any_case : ℕ → ℕ → Bool
is_in_any_case capital byte = (byte == capital) || (nat_le 65 capital && (byte == capital + 32))

-- the text is this word, given in capitals, and blanks after it
abbrev pub begins_word : List ℕ → List ℕ → Bool
begins_word [] text = is_blank_line text
begins_word (capital ∷ capitals) [] = false
begins_word (capital ∷ capitals) (byte ∷ bytes) = is_in_any_case capital byte && begins_word capitals bytes

-- the value is this word, given in capitals: its letters may be small, and blanks may be around it
abbrev pub is_word : List ℕ → List ℕ → Bool
is_word capitals value = begins_word capitals (after_blanks value)

-- ---- values that say nothing
abbrev pub is_unsaid : List ℕ → Bool
is_unsaid value = is_word [] value || is_word (codes "?") value

-- a Dealer value says something unless it is empty, `?` or `-`
abbrev pub says_dealer : List ℕ → Bool
says_dealer value = not (is_unsaid value || is_word (codes "-") value)

-- a Vulnerable value says something unless it is empty or `?`
abbrev pub says_vulnerability : List ℕ → Bool
says_vulnerability value = not (is_unsaid value)

-- ---- what the others say
abbrev pub dealer_said : List ℕ → Option Seat
dealer_said value =
    if is_word (codes "N") value then Some North else
    (if is_word (codes "E") value then Some East else
    (if is_word (codes "S") value then Some South else
    (if is_word (codes "W") value then Some West else
    None)))

abbrev pub vulnerability_said : List ℕ → Option VulnerableSides
vulnerability_said value =
    if is_word (codes "NONE") value || (is_word (codes "LOVE") value || is_word (codes "-") value)
    then Some Neither else
    (if is_word (codes "NS") value then Some NorthSouth else
    (if is_word (codes "EW") value then Some EastWest else
    (if is_word (codes "ALL") value || is_word (codes "BOTH") value then Some Both else
    None)))

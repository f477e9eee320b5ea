-- What a sheet shows of who deals and who is vulnerable, in words and round the compass.
use Rattle.std.specs.Prelude.{ℕ, Bool, true, false, List, [], ◌++◌, Option, None, Some}
use Rattle.cards.specs.declared.seats.Seat.{Seat}
use Rattle.cards.specs.declared.seats.Seat.TheVariants.{North, East, South, West}
use Rattle.cards.specs.Seats.{seat_letter, side_of, is_same_seat}
use Rattle.par.specs.declared.scores.Vulnerability.{Vulnerability}
use Rattle.par.specs.declared.scores.Vulnerability.TheVariants.{NotVulnerable, Vulnerable}
use Rattle.par.specs.declared.vulnerable_sides.VulnerableSides.{VulnerableSides}
use Rattle.par.specs.VulnerableSides.{vulnerability_of}
use Rattle.board_conditions.specs.declared.conditions.Conditions.{Conditions}
use Rattle.html.specs.Templates.{filled}
use Rattle.tables.specs.ConditionTags.{sides_shown}
use Rattle.sheets.specs.declared.templates.TheConstants.{FACTS, DEALER, VULNERABLE, COMPASS}
use Rattle.sheets.specs.declared.templates.TheConstants.{SEAT, DEALS, EXPOSED, DEALS_EXPOSED, HANDS}

-- a template with one value
abbrev pub with_value : List ℕ → List ℕ → List ℕ
with_value template value = filled (λ place. value) template

-- ---- in words
abbrev pub dealer_text : Option Seat → List ℕ
dealer_text None = []
dealer_text (Some dealer) = with_value DEALER.now (seat_letter dealer)

abbrev pub vulnerable_text : Option VulnerableSides → List ℕ
vulnerable_text None = []
vulnerable_text (Some vulnerable) = with_value VULNERABLE.now (sides_shown vulnerable)

-- ---- round the compass
abbrev pub is_dealer : Option Seat → Seat → Bool
is_dealer None seat = false
is_dealer (Some dealer) seat = is_same_seat dealer seat

abbrev pub is_vulnerable : Vulnerability → Bool
is_vulnerable NotVulnerable = false
is_vulnerable Vulnerable = true

abbrev pub is_exposed : Option VulnerableSides → Seat → Bool
is_exposed None seat = false
is_exposed (Some vulnerable) seat = is_vulnerable (vulnerability_of vulnerable (side_of seat))

abbrev pub seat_template : Bool → Bool → List ℕ
seat_template false false = SEAT.now
seat_template true false = DEALS.now
seat_template false true = EXPOSED.now
seat_template true true = DEALS_EXPOSED.now

abbrev pub seat_text : Conditions → Seat → List ℕ
seat_text conditions seat =
    with_value (seat_template (is_dealer conditions.dealer seat) (is_exposed conditions.vulnerable seat))
    (seat_letter seat)

unfoldable pub seats_text : Conditions → List ℕ
seats_text conditions =
    seat_text conditions North ++ (seat_text conditions West
    ++ (seat_text conditions East ++ seat_text conditions South))

-- the facts in words
unfoldable pub words_text : Conditions → List ℕ
words_text conditions = dealer_text conditions.dealer ++ vulnerable_text conditions.vulnerable

-- the facts in words, and then the compass
unfoldable pub facts_text : Conditions → List ℕ
facts_text conditions =
    FACTS.now ++ (words_text conditions ++ (COMPASS.now ++ (seats_text conditions ++ HANDS.now)))

-- What is written of boards on a sheet is read, element by element, as their names, their deals and their results.
use Rattle.std.specs.Prelude.{◌≡◌, ◌==◌, ℕ, ◌+◌, Bool, true, List, [], ◌∷◌, ◌++◌, map, codes, Option, None, Some}
use Rattle.std.specs.Prelude.{slice_index_or}
use Rattle.std.specs.Char.{encode_utf8}
use Rattle.std.specs.Fmt.{decimal}
use Rattle.std.specs.List.{flat_map, list_all, list_any}
use Rattle.cards.specs.declared.seats.Seat.{Seat}
use Rattle.cards.specs.declared.seats.Seat.TheVariants.{North, East, South, West}
use Rattle.cards.specs.declared.suits.Suit.TheVariants.{Spades, Hearts, Diamonds, Clubs}
use Rattle.cards.specs.Seats.{seat_letter}
use Rattle.cards.specs.Deal.{Deal}
use Rattle.pbn_deals.specs.declared.boards.Board.{Board}
use Rattle.par.specs.declared.vulnerable_sides.VulnerableSides.{VulnerableSides}
use Rattle.board_conditions.specs.declared.conditions.Conditions.{Conditions}
use Rattle.board_conditions.specs.Titles.{TitleValues}
use Rattle.tables.specs.TablesText.{Printed}
use Rattle.text_laws.specs.ReadBack.{AreTricks}
use Rattle.text_laws.specs.PageReading.{Section}
use Rattle.text_laws.specs.WrittenOnce.{SaysSection}
use Rattle.sheet_reading.specs.Values.{shown as shown_chars}
use Rattle.tables.specs.ConditionTags.{sides_shown}
use Rattle.sheets.specs.HandText.{holding_shown, points_of}
use Rattle.sheets.specs.Facts.{is_dealer, is_exposed}
use Rattle.sheets.specs.Headings.{title_shown}
use Rattle.sheets.specs.Pages.{unknown}
use Rattle.sheets.specs.Markup.{Shown, page_of}
use Rattle.sheet_reading.specs.SheetReading.{suit_sign, Corner, Block, Sheet, sheet_in}

-- the UTF-8 of what a page shows of a value
abbrev pub said : List ℕ → List ℕ
said value = flat_map encode_utf8 (shown_chars value)

-- the title of the page
abbrev pub title_said : TitleValues → List ℕ
title_said head = codes "Hand record " ++ said (title_shown head.event)

-- what the numbers and marks of the boards mean
abbrev pub key_words : List ℕ
key_words =
    codes "Double-dummy results. Bold: the level that declarer makes. (6): tricks, if no level makes."
    ++ codes "\nHCP: honour points. Disc: dealer. Red side: vulnerable."

-- where and when, and the key
abbrev pub notes_said : TitleValues → List (List ℕ)
notes_said head =
    (said (title_shown head.site) ++ (codes " " ++ said (title_shown head.date))) ∷ key_words ∷ []

-- ---- the policy
-- a browser loads nothing and runs no script; it takes no style except that with this SHA-256
abbrev pub policy_for : List ℕ → List ℕ
policy_for hash =
    codes "default-src 'none';\n  style-src 'sha256-" ++ (hash ++ codes "'; base-uri 'none'; form-action 'none'")

-- a digit of base64 (RFC 4648, 4)
abbrev pub is_base64 : ℕ → Bool
is_base64 byte =
    list_any (λ digit. byte == digit) (codes "ABCDEFGHIJKLMNOPQRSTUVWXYZabcdefghijklmnopqrstuvwxyz0123456789+/=")

-- one policy
pub record IsPolicy (policies : List (List ℕ)) : Type 0 where
  pub hash : List ℕ
  pub is_hash : list_all is_base64 hash ≡ true
  pub is : policies ≡ policy_for hash ∷ []

-- ---- the head
pub record SaysHead (head : TitleValues) (sheet : Sheet) : Type 0 where
  pub title : sheet.title ≡ title_said head
  pub notes : sheet.notes ≡ notes_said head
  pub policy : IsPolicy sheet.policies

-- ---- who deals and who is vulnerable
abbrev pub dealer_said : Option Seat → List (List ℕ)
dealer_said None = []
dealer_said (Some dealer) = (codes "Dealer " ++ seat_letter dealer) ∷ []

abbrev pub sides_said : Option VulnerableSides → List (List ℕ)
sides_said None = []
sides_said (Some vulnerable) = (codes "Vul " ++ sides_shown vulnerable) ∷ []

-- who deals and who is vulnerable, each if it is known
abbrev pub facts_said : Conditions → List (List ℕ)
facts_said conditions = dealer_said conditions.dealer ++ sides_said conditions.vulnerable

-- the seats of the compass: the dealer and the vulnerable seats, as far as known, have their marks
abbrev pub corner_said : Conditions → Seat → Corner
corner_said conditions seat = record {
  seat = seat_letter seat;
  deals = is_dealer conditions.dealer seat;
  exposed = is_exposed conditions.vulnerable seat;
}

abbrev pub compass_said : Conditions → List Corner
compass_said conditions = map (corner_said conditions) (North ∷ West ∷ East ∷ South ∷ [])

-- ---- the hands
-- under the letter of a seat are its cards of each suit or a dash, and its honour points
abbrev pub hand_said : Deal → Seat → List (List ℕ)
hand_said deal seat =
    seat_letter seat
    ∷ (suit_sign 0xA0 ++ holding_shown deal seat Spades)
    ∷ (suit_sign 0xA5 ++ holding_shown deal seat Hearts)
    ∷ (suit_sign 0xA6 ++ holding_shown deal seat Diamonds)
    ∷ (suit_sign 0xA3 ++ holding_shown deal seat Clubs)
    ∷ decimal (points_of deal seat) ∷ []

abbrev pub hands_said : Deal → List (List (List ℕ))
hands_said deal = map (hand_said deal) (North ∷ East ∷ South ∷ West ∷ [])

-- ---- a board
-- there is a section, and it says the results and the par
abbrev pub SaysPrinted : Printed → Option Section → Type 0
SaysPrinted printed None = ⊥
SaysPrinted printed (Some section) = SaysSection printed section

pub record SaysDealt (deal : Deal) (conditions : Conditions) (printed : Printed) (block : Block) : Type 0 where
  pub facts : block.facts ≡ facts_said conditions
  pub compass : block.compass ≡ compass_said conditions
  pub hands : block.hands ≡ hands_said deal
  pub numbers : SaysPrinted printed block.section

pub record SaysNothing (block : Block) : Type 0 where
  pub facts : block.facts ≡ []
  pub compass : block.compass ≡ []
  pub hands : block.hands ≡ []
  pub numbers : block.section ≡ None

-- A board with a deal has its facts, in words and round its compass, its hands and its section. A board without a deal
-- has none of them.
abbrev pub SaysDeal : Option Deal → Conditions → Printed → Block → Type 0
SaysDeal None conditions printed block = SaysNothing block
SaysDeal (Some deal) conditions printed block = SaysDealt deal conditions printed block

pub record SaysBoard (board : Board) (conditions : Conditions) (printed : Printed) (block : Block) : Type 0 where
  pub name : block.name ≡ said board.name
  pub deal : SaysDeal board.deal conditions printed block

-- ---- the law
-- who deals and who is vulnerable, as far as is known, at the board in this place
abbrev pub conditions_at : Shown → ℕ → Conditions
conditions_at shown place = slice_index_or shown.conditions place unknown

-- a block for each board, in their order, and no other; this is the place of the first board
abbrev pub SayBoards : Shown → ℕ → List Board → List Block → Type 0
SayBoards shown place [] [] = Unit {0}
SayBoards shown place (board ∷ boards) (block ∷ blocks) =
    SaysBoard board (conditions_at shown place) (shown.printed place) block × SayBoards shown (place + 1) boards blocks
SayBoards shown place _ _ = ⊥

-- a sheet is read as its head, and as blocks that say the boards and what is printed of them
abbrev pub SheetsAreRead : Type 0
SheetsAreRead =
    (shown : Shown) → AreTricks shown.printed →
    (sheet : Sheet) × (sheet_in (page_of shown) ≡ Some sheet)
    × SaysHead shown.head sheet × SayBoards shown 0 shown.boards sheet.blocks

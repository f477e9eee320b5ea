-- What a cell of the table shows: the card that a seat played to a trick, with its marks.
use Rattle.std.specs.Prelude.{ℕ, Bool, List, [], ◌++◌, Option, decimal, if◌then◌else◌}
use Rattle.cards.specs.declared.suits.Suit.{Suit}
use Rattle.cards.specs.declared.suits.Suit.TheVariants.{Spades, Hearts, Diamonds, Clubs}
use Rattle.cards.specs.declared.pack.Card.{Card}
use Rattle.sheets.specs.Facts.{with_value}
use Rattle.sheets.specs.HandText.{rank_shown}
use Rattle.play_pages.specs.declared.lines.CardLine.{CardLine}
use Rattle.play_pages.specs.Counts.{known_or_none}
use Rattle.play_pages.specs.Texts.{is_mistake, number_text}
use Rattle.play_sheets.specs.declared.templates.TheConstants.{SPADE, HEART, DIAMOND, CLUB, LOSES, LOSS, WINS, WINS_END}
use Rattle.play_sheets.specs.declared.templates.TheConstants.{LEADS}

-- a number of tricks, or that it isn't known
abbrev pub with_number : List ℕ → Option ℕ → List ℕ
with_number template number = with_value template (number_text number)

abbrev pub suit_template : Suit → List ℕ
suit_template Spades = SPADE.now
suit_template Hearts = HEART.now
suit_template Diamonds = DIAMOND.now
suit_template Clubs = CLUB.now

abbrev pub card_text : Card → List ℕ
card_text card = with_value (suit_template card.suit) (rank_shown card.rank)

-- a card that loses tricks, with their number
unfoldable pub losing_text : Card → ℕ → List ℕ
losing_text card lost = LOSES.now ++ (card_text card ++ with_value LOSS.now (decimal lost))

-- the card of a line, marked if it is known to lose tricks
abbrev pub line_text : CardLine → List ℕ
line_text line = if is_mistake line then losing_text line.card (known_or_none line.lost) else card_text line.card

unfoldable pub winning_text : CardLine → List ℕ
winning_text line = WINS.now ++ (line_text line ++ WINS_END.now)

-- the same, marked if its seat wins the trick
abbrev pub won_text : Bool → CardLine → List ℕ
won_text wins line = if wins then winning_text line else line_text line

abbrev pub lead_text : Bool → List ℕ
lead_text leads = if leads then LEADS.now else []

-- the same, marked if it is led
unfoldable pub marked_text : Bool → Bool → CardLine → List ℕ
marked_text leads wins line = lead_text leads ++ won_text wins line

-- How a Deal value names cards: a seat letter, a colon, and four hands clockwise from that seat, with blanks
-- between two. A hand is four groups between dots, spades, hearts, diamonds and clubs, or `-` where it is not
-- known (PBN 2.1, section 3.4.11).
use Rattle.std.specs.Prelude.{ℕ, zero, suc, ◌==◌, Bool, true, false, List, [], ◌∷◌, ◌++◌, map, filter, Option, Some}
use Rattle.std.specs.Prelude.{None, if◌then◌else◌}
use Rattle.std.specs.List.{slice_split, list_any}
use Rattle.cards.specs.declared.suits.Suit.{Suit}
use Rattle.cards.specs.declared.suits.Suit.TheVariants.{Spades, Hearts, Diamonds, Clubs}
use Rattle.cards.specs.declared.seats.Seat.{Seat}
use Rattle.cards.specs.declared.pack.Rank.{Rank}
use Rattle.cards.specs.declared.pack.Card.{Card}
use Rattle.cards.specs.Seats.{next_of}
use Rattle.pbn_deals.specs.Letters.{is_blank, is_dot, seat_of_letter, rank_of_letter}
use Rattle.pbn_deals.specs.Dealing.{Holding, held_by}
use Rattle.cards.specs.Bytes as ascii

-- what stands after the blanks at the front
abbrev pub after_blanks : List ℕ → List ℕ
after_blanks [] = []
after_blanks (byte ∷ bytes) = if is_blank byte then after_blanks bytes else (byte ∷ bytes)

-- whether a part between two blanks is a word
abbrev pub is_word : List ℕ → Bool
is_word [] = false
is_word (byte ∷ bytes) = true

-- the words of a text: the parts between its blanks
abbrev pub words_of : List ℕ → List (List ℕ)
words_of text = filter is_word (slice_split is_blank text)

-- a card before others, where both are named
abbrev pub put_card : Suit → Option Rank → Option (List Card) → Option (List Card)
put_card suit (Some rank) (Some cards) = Some (record { suit = suit; rank = rank } ∷ cards)
put_card suit (Some rank) None = None
put_card suit None cards = None

-- items before others, where both are named
abbrev pub put_all : {A : Type 0} → Option (List A) → Option (List A) → Option (List A)
put_all (Some items) (Some others) = Some (items ++ others)
put_all (Some items) None = None
put_all None others = None

-- the cards of a group: a letter for each rank
abbrev pub group_cards : Suit → List ℕ → Option (List Card)
group_cards suit [] = Some []
group_cards suit (letter ∷ letters) = put_card suit (rank_of_letter letter) (group_cards suit letters)

-- the cards of groups of these suits, one group a suit
abbrev pub groups_cards : List Suit → List (List ℕ) → Option (List Card)
groups_cards [] [] = Some []
groups_cards [] (group ∷ groups) = None
groups_cards (suit ∷ suits) [] = None
groups_cards (suit ∷ suits) (group ∷ groups) = put_all (group_cards suit group) (groups_cards suits groups)

abbrev pub suits_in_order : List Suit
suits_in_order = Spades ∷ Hearts ∷ Diamonds ∷ Clubs ∷ []

-- a hand that is not known is written `-`
abbrev pub is_unknown : List ℕ → Bool
is_unknown [] = false
is_unknown (byte ∷ []) = byte == ascii.dash
is_unknown (byte ∷ other ∷ bytes) = false

-- the cards that a hand names: none where it is not known
abbrev pub hand_cards : List ℕ → Option (List Card)
hand_cards word = if is_unknown word then Some [] else groups_cards suits_in_order (slice_split is_dot word)

-- whose cards they are
abbrev pub in_hand : Seat → Option (List Card) → Option (List Holding)
in_hand seat (Some cards) = Some (map (held_by seat) cards)
in_hand seat None = None

-- what the hands of these seats name, one word a seat
abbrev pub hands_held : List Seat → List (List ℕ) → Option (List Holding)
hands_held [] [] = Some []
hands_held [] (word ∷ words) = None
hands_held (seat ∷ seats) [] = None
hands_held (seat ∷ seats) (word ∷ words) = put_all (in_hand seat (hand_cards word)) (hands_held seats words)

-- so many seats, clockwise from one of them
abbrev pub seats_from : ℕ → Seat → List Seat
seats_from zero seat = []
seats_from (suc n) seat = seat ∷ seats_from n (next_of seat)

-- what a value of the form says: the cards that it names, and whether a hand is not known
pub record Naming : Type 0 where
  pub held : List Holding
  pub is_partial : Bool

abbrev pub naming_with : Option (List Holding) → Bool → Option Naming
naming_with (Some held) partial = Some (record { held = held; is_partial = partial })
naming_with None partial = None

-- the hands, the first of them that of the seat
abbrev pub naming_from : Option Seat → List ℕ → Option Naming
naming_from (Some seat) text =
    naming_with (hands_held (seats_from 4 seat) (words_of text)) (list_any is_unknown (words_of text))
naming_from None text = None

-- a seat letter, a colon, and the hands
abbrev pub naming_at : List ℕ → Option Naming
naming_at [] = None
naming_at (letter ∷ []) = None
naming_at (letter ∷ colon ∷ text) = if colon == ascii.colon then naming_from (seat_of_letter letter) text else None

-- what a Deal value says, where it is of the form
abbrev pub naming_of : List ℕ → Option Naming
naming_of value = naming_at (after_blanks value)

-- a value that names the cards of all four hands
abbrev pub full : List Holding → Option Naming
full held = Some (record { held = held; is_partial = false })

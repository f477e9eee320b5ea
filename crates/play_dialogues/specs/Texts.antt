-- The texts of a dialogue. Each line ends with a line feed.
use Rattle.std.specs.Prelude.{ℕ, ◌+◌, ◌/◌, List, [], ◌∷◌, ◌++◌, length, codes, Option, None, Some, if◌then◌else◌}
use Rattle.std.specs.Prelude.{decimal, flat_map}
use Rattle.cards.specs.declared.suits.Suit.{Suit}
use Rattle.cards.specs.declared.suits.Suit.TheVariants.{Spades, Hearts, Diamonds, Clubs}
use Rattle.cards.specs.declared.seats.Seat.{Seat}
use Rattle.cards.specs.declared.seats.Seat.TheVariants.{North, East, South, West}
use Rattle.cards.specs.declared.seats.Side.{Side}
use Rattle.cards.specs.declared.seats.Side.TheVariants.{NorthSouth, EastWest}
use Rattle.cards.specs.declared.pack.Rank.{Rank}
use Rattle.cards.specs.declared.pack.Rank.TheVariants.{Two, Three, Four, Five, Six, Seven}
use Rattle.cards.specs.declared.pack.Rank.TheVariants.{Eight, Nine, Ten, Jack, Queen, King, Ace}
use Rattle.cards.specs.declared.pack.Card.{Card}
use Rattle.cards.specs.Pack.{rank_letter, card_of}
use Rattle.cards.specs.Seats.{seat_letter, side_letters}
use Rattle.cards.specs.Deal.{Deal, holder_of, is_held_by}
use Rattle.play_rules.specs.History.{trick_of, leader_after, tricks_of}
use Rattle.play_rules.specs.Left.{left_of}
use Rattle.play_rules.specs.Position.{turn_of}
use Rattle.certificate_play.specs.Promises.{Promise}
use Rattle.cards.specs.CardTexts.{card_text, cards_text}
use Rattle.play_dialogues.specs.declared.words.Refusal.{Refusal}
use Rattle.play_dialogues.specs.declared.words.Refusal.TheVariants.{NoCard, NotHeld, MustFollow, Several, NothingBack}
use Rattle.cards.specs.Bytes as ascii

-- ---- the hands
-- who holds each card that is left
abbrev pub left_in : Promise → Deal
left_in promise = left_of promise.position.opening.deal promise.position.history

-- the ranks, the ace first
abbrev pub ranks_falling : List Rank
ranks_falling = Ace ∷ King ∷ Queen ∷ Jack ∷ Ten ∷ Nine ∷ Eight ∷ Seven ∷ Six ∷ Five ∷ Four ∷ Three ∷ Two ∷ []

-- the letter of a card that the seat holds, and nothing for another
abbrev pub held_letter : Deal → Seat → Suit → Rank → List ℕ
held_letter deal seat suit rank =
    if is_held_by seat (holder_of deal (card_of suit rank)) then rank_letter rank else []

-- the seat's cards of a suit
unfoldable pub suit_text : Deal → Seat → Suit → List ℕ
suit_text deal seat suit = flat_map (held_letter deal seat suit) ranks_falling

-- a hand, as PBN writes it (2.1, section 3.4.11): `N: AQ5..K2.T`
unfoldable pub hand_line : Deal → Seat → List ℕ
hand_line deal seat =
    seat_letter seat ++ codes ": " ++ suit_text deal seat Spades ++ codes "." ++ suit_text deal seat Hearts
    ++ codes "." ++ suit_text deal seat Diamonds ++ codes "." ++ suit_text deal seat Clubs ++ ascii.line_feed ∷ []

-- the four hands
unfoldable pub hands_text : Deal → List ℕ
hands_text deal = hand_line deal North ++ hand_line deal East ++ hand_line deal South ++ hand_line deal West

-- ---- the trick and the score
-- the trick in progress, with its number and its leader: `3 W: S4 SQ`
unfoldable pub trick_line : Promise → List ℕ
trick_line promise =
    decimal (length promise.position.history / 4 + 1) ++ codes " "
    ++ seat_letter
    (leader_after promise.position.opening.trump promise.position.opening.leader promise.position.history)
    ++ codes ":" ++ cards_text (trick_of promise.position.history) ++ ascii.line_feed ∷ []

-- the tricks that a side has won so far
abbrev pub tricks_in : Promise → Side → ℕ
tricks_in promise side =
    tricks_of side promise.position.opening.trump promise.position.opening.leader promise.position.history

-- who has won how many tricks so far: `NS 2, EW 1`
unfoldable pub score_line : Promise → List ℕ
score_line promise =
    codes "NS " ++ decimal (tricks_in promise NorthSouth) ++ codes ", EW " ++ decimal (tricks_in promise EastWest)
    ++ ascii.line_feed ∷ []

-- what was promised: `NS promised 2`
unfoldable pub promise_line : Promise → List ℕ
promise_line promise = side_letters promise.side ++ codes " promised " ++ decimal promise.tricks ++ ascii.line_feed ∷ []

-- ---- what is said
-- whose turn it is: `S to play`
unfoldable pub turn_line : Option Seat → List ℕ
turn_line None = []
turn_line (Some seat) = seat_letter seat ++ codes " to play" ++ ascii.line_feed ∷ []

-- a card is asked for, while one is still to be played
unfoldable pub asking_text : Option Seat → Promise → List ℕ
asking_text None promise = []
asking_text (Some seat) promise =
    hands_text (left_in promise) ++ trick_line promise ++ score_line promise ++ turn_line (Some seat)

abbrev pub asks : Promise → List ℕ
asks promise = asking_text (turn_of promise.position) promise

abbrev pub asks_again : Promise → List ℕ
asks_again promise = turn_line (turn_of promise.position)

abbrev pub letter_of_holder : Option Seat → List ℕ
letter_of_holder None = []
letter_of_holder (Some seat) = seat_letter seat

-- a card that is played, behind the seat that held it: `S SA`
unfoldable pub played_line : Deal → Card → List ℕ
played_line deal card = letter_of_holder (holder_of deal card) ++ codes " " ++ card_text card ++ ascii.line_feed ∷ []

-- the cards that are played from these hands
unfoldable pub played_text : Deal → List Card → List ℕ
played_text deal cards = flat_map (played_line deal) cards

-- why nothing is done
unfoldable pub refusal_line : Refusal → List ℕ
refusal_line NoCard = codes "no card: type one as S3 or 3S, or undo, hands or quit" ++ ascii.line_feed ∷ []
refusal_line NotHeld = codes "the card is not in this hand" ++ ascii.line_feed ∷ []
refusal_line MustFollow = codes "the suit led must be followed" ++ ascii.line_feed ∷ []
refusal_line Several = codes "more than one card may be played" ++ ascii.line_feed ∷ []
refusal_line NothingBack = codes "there is no card to take back" ++ ascii.line_feed ∷ []

-- at the end: what was played, who has won how many tricks, and what was promised
unfoldable pub closing_text : Promise → List ℕ
closing_text promise =
    codes "played" ++ cards_text promise.position.history ++ codes "\n" ++ score_line promise ++ promise_line promise

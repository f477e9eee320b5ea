-- The pack of 52 cards (Law 1): four suits of thirteen ranks, and a number for each card.
use Rattle.std.specs.Prelude.{ℕ, ◌+◌, ◌*◌, ◌/◌, ◌%◌, ◌==◌, List, if◌then◌else◌, codes}
use Rattle.cards.specs.declared.suits.Suit.{Suit}
use Rattle.cards.specs.declared.suits.Suit.TheVariants.{Spades, Hearts, Diamonds, Clubs}
use Rattle.cards.specs.declared.suits.Trump.{Trump}
use Rattle.cards.specs.declared.suits.Trump.TheVariants as trump
use Rattle.cards.specs.declared.pack.Rank.{Rank}
use Rattle.cards.specs.declared.pack.Rank.TheVariants.{Two, Three, Four, Five, Six, Seven}
use Rattle.cards.specs.declared.pack.Rank.TheVariants.{Eight, Nine, Ten, Jack, Queen, King, Ace}
use Rattle.cards.specs.declared.pack.Card.{Card}

-- the place of a suit in the order spades, hearts, diamonds, clubs
abbrev pub suit_number : Suit → ℕ
suit_number Spades = 0
suit_number Hearts = 1
suit_number Diamonds = 2
suit_number Clubs = 3

-- how many ranks are below: the ace is highest, the deuce lowest
abbrev pub rank_number : Rank → ℕ
rank_number Two = 0
rank_number Three = 1
rank_number Four = 2
rank_number Five = 3
rank_number Six = 4
rank_number Seven = 5
rank_number Eight = 6
rank_number Nine = 7
rank_number Ten = 8
rank_number Jack = 9
rank_number Queen = 10
rank_number King = 11
rank_number Ace = 12

-- the card's number: suits in their order, and ranks rising within a suit
abbrev pub card_number : Card → ℕ
card_number card = 13 * suit_number card.suit + rank_number card.rank

-- the suit in this place
abbrev pub suit_at : ℕ → Suit
suit_at n = if n == 0 then Spades else (if n == 1 then Hearts else (if n == 2 then Diamonds else Clubs))

-- the rank with this many below it
abbrev pub rank_at : ℕ → Rank
rank_at n =
    if n == 0 then Two else
    (if n == 1 then Three else
    (if n == 2 then Four else
    (if n == 3 then Five else
    (if n == 4 then Six else
    (if n == 5 then Seven else
    (if n == 6 then Eight else
    (if n == 7 then Nine else
    (if n == 8 then Ten else
    (if n == 9 then Jack else
    (if n == 10 then Queen else
    (if n == 11 then King else
    Ace)))))))))))

-- the card with this number
abbrev pub card_at : ℕ → Card
card_at n = record { suit = suit_at (n / 13); rank = rank_at (n % 13) }

-- the card of a suit and a rank
abbrev pub card_of : Suit → Rank → Card
card_of suit rank = record { suit = suit; rank = rank }

-- the letters that are printed
abbrev pub suit_letter : Suit → List ℕ
suit_letter Spades = codes "S"
suit_letter Hearts = codes "H"
suit_letter Diamonds = codes "D"
suit_letter Clubs = codes "C"

abbrev pub trump_letters : Trump → List ℕ
trump_letters trump.Nt = codes "NT"
trump_letters (trump.Suit suit) = suit_letter suit

abbrev pub rank_letter : Rank → List ℕ
rank_letter Two = codes "2"
rank_letter Three = codes "3"
rank_letter Four = codes "4"
rank_letter Five = codes "5"
rank_letter Six = codes "6"
rank_letter Seven = codes "7"
rank_letter Eight = codes "8"
rank_letter Nine = codes "9"
rank_letter Ten = codes "T"
rank_letter Jack = codes "J"
rank_letter Queen = codes "Q"
rank_letter King = codes "K"
rank_letter Ace = codes "A"

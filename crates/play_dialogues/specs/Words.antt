-- What a line says. Capitals and small letters are alike, and blanks don't count.
use Rattle.std.specs.Prelude.{◌≡◌, ◌≢◌, ℕ, ◌==◌, ◌||◌, Bool, not, List, [], ◌++◌, ◌⊎◌, map, filter, codes}
use Rattle.std.specs.Char.{to_ascii_uppercase}
use Rattle.cards.specs.declared.pack.Rank.{Rank}
use Rattle.cards.specs.declared.pack.Rank.TheVariants.{Ten}
use Rattle.cards.specs.declared.pack.Card.{Card}
use Rattle.cards.specs.Pack.{suit_letter, rank_letter}
use Rattle.play_dialogues.specs.declared.words.Typed.{Typed}
use Rattle.play_dialogues.specs.declared.words.Typed.TheVariants as typed
use Rattle.cards.specs.Bytes as ascii

-- a blank, a tab or a carriage return
abbrev pub is_blank : ℕ → Bool
is_blank byte = byte == ascii.blank || (byte == ascii.tab || byte == ascii.carriage_return)

-- the letters of a line: its bytes without blanks, in capitals
unfoldable pub letters_of : List ℕ → List ℕ
letters_of line = map to_ascii_uppercase (filter (λ byte. not (is_blank byte)) line)

-- a rank is named by its letter, and the ten by 10 too
abbrev pub NamesRank : List ℕ → Rank → Type 0
NamesRank letters rank = (letters ≡ rank_letter rank) ⊎ ((rank ≡ Ten) × (letters ≡ codes "10"))

-- a card is named by its suit and then its rank, or the other way
abbrev pub NamesBySuit : List ℕ → Card → Type 0
NamesBySuit letters card = (rank : List ℕ) × NamesRank rank card.rank × (letters ≡ suit_letter card.suit ++ rank)

abbrev pub NamesByRank : List ℕ → Card → Type 0
NamesByRank letters card = (rank : List ℕ) × NamesRank rank card.rank × (letters ≡ rank ++ suit_letter card.suit)

abbrev pub NamesCard : List ℕ → Card → Type 0
NamesCard letters card = NamesBySuit letters card ⊎ NamesByRank letters card

-- they are no card and no word
pub record SayNothing (letters : List ℕ) : Type 0 where
  pub some : letters ≢ []
  pub no_card : (card : Card) → NamesCard letters card → ⊥
  pub not_undo : letters ≢ codes "UNDO"
  pub not_hands : letters ≢ codes "HANDS"
  pub not_quit : letters ≢ codes "QUIT"

-- what these letters say
abbrev pub Says : List ℕ → Typed → Type 0
Says letters (typed.Card card) = NamesCard letters card
Says letters typed.Empty = letters ≡ []
Says letters typed.Undo = letters ≡ codes "UNDO"
Says letters typed.Hands = letters ≡ codes "HANDS"
Says letters typed.Quit = letters ≡ codes "QUIT"
Says letters typed.Unknown = SayNothing letters

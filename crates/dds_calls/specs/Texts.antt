-- Hands in a text, and what a call answers.
use Rattle.std.specs.Prelude.{◌≡◌, ◌⊎◌, ◌↔◌, ℕ, ◌*◌, ◌/◌, ◌%◌, ◌^◌, ◌==◌, ℤ, pos, negsuc, List, [], ◌∷◌}
use Rattle.std.specs.Prelude.{Contains, if◌then◌else◌}
use Rattle.cards.specs.declared.seats.Seat.{Seat}
use Rattle.cards.specs.declared.pack.Card.{Card}
use Rattle.pbn_deals.specs.Dealing.{Holding, held_by}
use Rattle.pbn_deals.specs.DealValue.{naming_of, full}
use Rattle.dds_calls.specs.declared.tables.TableDeal.{TableDeal}
use Rattle.dds_calls.specs.Hands.{AreOfCards, HasCard}

-- the bytes before the first NUL
abbrev pub before_nul : List ℕ → List ℕ
before_nul [] = []
before_nul (byte ∷ bytes) = if byte == 0 then [] else (byte ∷ before_nul bytes)

-- each seat has the cards that the text names in its hand, and no others
pub record IsNamed (held : List Holding) (hands : List (List ℕ)) : Type 0 where
  pub of_cards : AreOfCards hands
  pub cards : (card : Card) (seat : Seat) → HasCard hands seat card ↔ Contains held (held_by seat card)

-- the hands are those that the value names
abbrev pub ReadsHands : List ℕ → List (List ℕ) → Type 0
ReadsHands value hands = (held : List Holding) × (naming_of value ≡ full held) × IsNamed held hands

-- the value doesn't name the cards of all four hands
abbrev pub NamesNoHands : List ℕ → Type 0
NamesNoHands value = (held : List Holding) → naming_of value ≡ full held → ⊥

-- four hands without cards
abbrev pub no_suits : List ℕ
no_suits = 0 ∷ 0 ∷ 0 ∷ 0 ∷ []

abbrev pub no_deal : TableDeal
no_deal = record { cards = no_suits ∷ no_suits ∷ no_suits ∷ no_suits ∷ [] }

-- what a call answers: 1 and the hands, or -99 and no cards
abbrev pub AnswersText : List ℕ → TableDeal → ℤ → Type 0
AnswersText text deal code =
    ((code ≡ pos 1) × ReadsHands (before_nul text) deal.cards)
    ⊎ ((code ≡ negsuc 98) × NamesNoHands (before_nul text) × (deal ≡ no_deal))

-- ---- in between
-- the words of the suits of a hand whose word has 13 bits for each suit, spades lowest
abbrev pub suits_of_word : ℕ → List ℕ
suits_of_word word =
    (word % 8192 * 4) ∷ (word / 2 ^ 13 % 8192 * 4) ∷ (word / 2 ^ 26 % 8192 * 4) ∷ (word / 2 ^ 39 % 8192 * 4) ∷ []

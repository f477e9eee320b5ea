-- A game as its tags come, and what one more tag does: the first Board tag names the board, wherever it stands, and
-- one Deal tag gives its deal.
use Rattle.std.specs.Prelude.{◌≡◌, ◌≢◌, ℕ, ◌≤◌, ◌<◌, true, false, List, [], ◌∷◌, Option, Some, None, Result, Ok, Err}
use Rattle.std.specs.Prelude.{◌⊎◌, unwrap_or}
use Rattle.cards.specs.declared.seats.Seat.{Seat}
use Rattle.cards.specs.Deal.{Deal}
use Rattle.pbn_deals.specs.declared.boards.Board.{Board}
use Rattle.pbn_deals.specs.declared.faults.PbnFault.{PbnFault}
use Rattle.pbn_deals.specs.declared.faults.PbnFault.TheVariants.{SecondDeal, DealForm, CardTwice, HandSize, Inherited}
use Rattle.pbn_deals.specs.declared.faults.PbnFault.TheVariants.{TooManyBoards}
use Rattle.pbn_deals.specs.Dealing.{Holding, cards_named, NamesOnce, NamesTwice, IsDealOf}
use Rattle.pbn_deals.specs.DealValue.{Naming, naming_of, words_of, after_blanks, full}
use Rattle.pbn_deals.specs.Tags.{is_board, is_deal, is_inherited}
use Rattle.cards.specs.Bytes as ascii

-- the name of the game's first Board tag, and what its Deal tag says
pub record Tags : Type 0 where
  pub name : Option (List ℕ)
  pub deal : Option (Option Deal)

abbrev pub no_tags : Tags
no_tags = record { name = None; deal = None }

-- ---- the value of a Deal tag
-- a value without cards: nothing but blanks, or `?`
abbrev pub IsNoDeal : List ℕ → Type 0
IsNoDeal value = (words_of value ≡ []) ⊎ (words_of value ≡ (ascii.question_mark ∷ []) ∷ [])

-- a hand is not of 13 cards
abbrev pub HasOtherSize : List Holding → Type 0
HasOtherSize held = (seat : Seat) × (cards_named held seat ≢ 13)

-- The deal that a value says, or its fault: `#`, another form, a card twice, a hand of another size than 13. A hand
-- that is not known leaves the board without a deal.
pub data SaysDeal (line : ℕ) (value : List ℕ) : Result (Option Deal) PbnFault → Type 0 where
  says_inherited : is_inherited (after_blanks value) ≡ true → SaysDeal line value (Err (Inherited line))
  says_nothing : is_inherited (after_blanks value) ≡ false → IsNoDeal value → SaysDeal line value (Ok None)
  says_other_form :
      is_inherited (after_blanks value) ≡ false → (IsNoDeal value → ⊥) → naming_of value ≡ None →
      SaysDeal line value (Err (DealForm line))
  says_part :
      {naming : Naming} →
      naming_of value ≡ Some naming → naming.is_partial ≡ true →
      SaysDeal line value (Ok None)
  says_twice :
      {held : List Holding} →
      naming_of value ≡ full held → NamesTwice held →
      SaysDeal line value (Err (CardTwice line))
  says_size :
      {held : List Holding} →
      naming_of value ≡ full held → NamesOnce held → HasOtherSize held →
      SaysDeal line value (Err (HandSize line))
  says_deal :
      {held : List Holding} {dealt : Deal} →
      naming_of value ≡ full held → IsDealOf held dealt → ((seat : Seat) → cards_named held seat ≡ 13) →
      SaysDeal line value (Ok (Some dealt))

-- ---- one tag more
-- how many boards a text may have
abbrev pub greatest_count : ℕ
greatest_count = 4096

-- the Board tag at a line: the game's first one gives the name
pub data TakesBoard (line : ℕ) (tags : Tags) (value : List ℕ) : Result Tags PbnFault → Type 0 where
  inherited_board : is_inherited value ≡ true → TakesBoard line tags value (Err (Inherited line))
  first_board :
      is_inherited value ≡ false → tags.name ≡ None →
      TakesBoard line tags value (Ok (record { name = Some value; deal = tags.deal }))
  later_board :
      {first : List ℕ} →
      is_inherited value ≡ false → tags.name ≡ Some first →
      TakesBoard line tags value (Ok tags)

-- the Deal tag at a line, of a game that follows this many boards: the game's only one gives the deal
pub data TakesDeal (line count : ℕ) (tags : Tags) (value : List ℕ) : Result Tags PbnFault → Type 0 where
  second_deal :
      {before : Option Deal} →
      tags.deal ≡ Some before →
      TakesDeal line count tags value (Err (SecondDeal line))
  faulty_deal :
      {fault : PbnFault} →
      tags.deal ≡ None → SaysDeal line value (Err fault) →
      TakesDeal line count tags value (Err fault)
  deal_too_many :
      {deal : Option Deal} →
      tags.deal ≡ None → SaysDeal line value (Ok deal) → greatest_count ≤ count →
      TakesDeal line count tags value (Err (TooManyBoards line))
  only_deal :
      {deal : Option Deal} →
      tags.deal ≡ None → SaysDeal line value (Ok deal) → count < greatest_count →
      TakesDeal line count tags value (Ok (record { name = tags.name; deal = Some deal }))

-- what the tag at a line makes of a game: tags of other names have no meaning
pub data TakesTag (line count : ℕ) (tags : Tags) (name value : List ℕ) : Result Tags PbnFault → Type 0 where
  board_tag :
      {taken : Result Tags PbnFault} →
      is_board name ≡ true → TakesBoard line tags value taken →
      TakesTag line count tags name value taken
  deal_tag :
      {taken : Result Tags PbnFault} →
      is_board name ≡ false → is_deal name ≡ true → TakesDeal line count tags value taken →
      TakesTag line count tags name value taken
  other_tag : is_board name ≡ false → is_deal name ≡ false → TakesTag line count tags name value (Ok tags)

-- the board of a game that has a Deal tag
abbrev pub board_of : Option (List ℕ) → Option (Option Deal) → List Board
board_of name None = []
board_of name (Some deal) = record { name = unwrap_or name []; deal = deal } ∷ []

abbrev pub boards_of : Tags → List Board
boards_of tags = board_of tags.name tags.deal

-- One sheet says one title, one list of boards, and of each board the same.
use Rattle.std.specs.Prelude.{◌≡◌, ℕ, ◌+◌, List, [], ◌∷◌, Option, None, Some}
use Rattle.cards.specs.declared.pack.Card.{Card}
use Rattle.cards.specs.Deal.{Deal, holder_of}
use Rattle.pbn_deals.specs.declared.boards.Board.{Board}
use Rattle.board_conditions.specs.declared.conditions.Conditions.{Conditions}
use Rattle.tables.specs.TablesText.{Printed}
use Rattle.text_laws.specs.ReadBack.{AreTricks}
use Rattle.text_laws.specs.WrittenOnce.{SaySame}
use Rattle.sheets.specs.Markup.{Shown, page_of}
use Rattle.sheet_reading.specs.Laws.{said, title_said, conditions_at}

-- the same holder of each card, the same dealer and vulnerability, and the same results and par
pub record AreSameDealt (one other : Deal) (its others : Conditions) (printed printed' : Printed) : Type 0 where
  pub holders : (card : Card) → holder_of one card ≡ holder_of other card
  pub dealers : its.dealer ≡ others.dealer
  pub vulnerable : its.vulnerable ≡ others.vulnerable
  pub numbers : SaySame printed printed'

-- neither board has a deal, or both have the same one
abbrev pub AreSameDeals : Option Deal → Option Deal → Conditions → Conditions → Printed → Printed → Type 0
AreSameDeals None None its others printed printed' = Unit {0}
AreSameDeals (Some one) (Some other) its others printed printed' = AreSameDealt one other its others printed printed'
AreSameDeals _ _ its others printed printed' = ⊥

-- as many boards, and each the same as the other board in its place; this is the place of the first two
abbrev pub AreSameBoards : Shown → Shown → ℕ → List Board → List Board → Type 0
AreSameBoards one other place [] [] = Unit {0}
AreSameBoards one other place (board ∷ boards) (board' ∷ boards') =
    (said board.name ≡ said board'.name)
    × AreSameDeals board.deal board'.deal (conditions_at one place) (conditions_at other place) (one.printed place)
    (other.printed place)
    × AreSameBoards one other (place + 1) boards boards'
AreSameBoards one other place _ _ = ⊥

-- two sheets of the same bytes have the same title, and say the same of the same boards
abbrev pub SheetsSayOneThing : Type 0
SheetsSayOneThing =
    (one other : Shown) → AreTricks one.printed → AreTricks other.printed → page_of one ≡ page_of other →
    (title_said one.head ≡ title_said other.head) × AreSameBoards one other 0 one.boards other.boards

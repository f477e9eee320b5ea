-- One sheet says one title, one list of boards, and of each board the same.
use Rattle.std.proofs.Common.{◌≡◌, ℕ, ◌+◌, List, [], ◌∷◌, Option, None, Some, refl, sym, ◌∙◌, ap, subst}
use Rattle.cards.specs.declared.seats.Seat.{Seat}
use Rattle.cards.specs.declared.seats.Seat.TheVariants.{North, East, South, West}
use Rattle.cards.specs.declared.suits.Suit.{Suit}
use Rattle.cards.specs.declared.suits.Suit.TheVariants.{Spades, Hearts, Diamonds, Clubs}
use Rattle.cards.specs.declared.pack.Card.{Card}
use Rattle.cards.specs.Deal.{Deal, holder_of, is_held_by}
use Rattle.pbn_deals.specs.declared.boards.Board.{Board}
use Rattle.board_conditions.specs.declared.conditions.Conditions.{Conditions}
use Rattle.tables.specs.TablesText.{Printed}
use Rattle.text_laws.specs.PageReading.{Section}
use Rattle.text_laws.specs.WrittenOnce.{SaySame}
use Rattle.sheets.specs.HandText.{holding_shown}
use Rattle.sheets.specs.Markup.{Shown}
use Rattle.sheet_reading.specs.SheetReading.{Block, Sheet, sheet_in}
use Rattle.sheet_reading.specs.Laws.{conditions_at, hand_said, hands_said, SaysPrinted, SaysDeal, SayBoards}
use Rattle.sheet_reading.specs.OneSheet.{AreSameDeals, AreSameBoards, SheetsSayOneThing}
use Rattle.sheet_reading.proofs.FactsBack.{same-dealer, same-sides}
use Rattle.sheet_reading.proofs.HandsBack.{same-holding}
use Rattle.sheet_reading.proofs.SameSections.{same_section}
use Rattle.sheet_reading.proofs.SheetRead.{sheets_are_read}

-- ---- the hands
abbrev second : List (List ℕ) → List ℕ
second (a ∷ b ∷ more) = b
second _ = []

abbrev third : List (List ℕ) → List ℕ
third (a ∷ b ∷ c ∷ more) = c
third _ = []

abbrev fourth : List (List ℕ) → List ℕ
fourth (a ∷ b ∷ c ∷ d ∷ more) = d
fourth _ = []

abbrev fifth : List (List ℕ) → List ℕ
fifth (a ∷ b ∷ c ∷ d ∷ e ∷ more) = e
fifth _ = []

abbrev past_sign : List ℕ → List ℕ
past_sign (a ∷ b ∷ c ∷ more) = more
past_sign _ = []

same-holdings : (one other : Deal) (seat : Seat) (suit : Suit) → hand_said one seat ≡ hand_said other seat →
    holding_shown one seat suit ≡ holding_shown other seat suit
same-holdings one other seat Spades e = ap (λ hand. past_sign (second hand)) e
same-holdings one other seat Hearts e = ap (λ hand. past_sign (third hand)) e
same-holdings one other seat Diamonds e = ap (λ hand. past_sign (fourth hand)) e
same-holdings one other seat Clubs e = ap (λ hand. past_sign (fifth hand)) e

abbrev hand_at : Seat → List (List (List ℕ)) → List (List ℕ)
hand_at North (n ∷ e ∷ s ∷ w ∷ more) = n
hand_at East (n ∷ e ∷ s ∷ w ∷ more) = e
hand_at South (n ∷ e ∷ s ∷ w ∷ more) = s
hand_at West (n ∷ e ∷ s ∷ w ∷ more) = w
hand_at seat _ = []

same-hand : (one other : Deal) (seat : Seat) → hands_said one ≡ hands_said other → hand_said one seat ≡ hand_said other seat
same-hand one other North e = ap (hand_at North) e
same-hand one other East e = ap (hand_at East) e
same-hand one other South e = ap (hand_at South) e
same-hand one other West e = ap (hand_at West) e

-- who holds a card is told by the four who could
one-holder : (one other : Option Seat) → ((seat : Seat) → is_held_by seat one ≡ is_held_by seat other) → one ≡ other
one-holder None None h = refl
one-holder None (Some North) h = absurd (let e = h North in cc)
one-holder None (Some East) h = absurd (let e = h East in cc)
one-holder None (Some South) h = absurd (let e = h South in cc)
one-holder None (Some West) h = absurd (let e = h West in cc)
one-holder (Some North) None h = absurd (let e = h North in cc)
one-holder (Some East) None h = absurd (let e = h East in cc)
one-holder (Some South) None h = absurd (let e = h South in cc)
one-holder (Some West) None h = absurd (let e = h West in cc)
one-holder (Some North) (Some North) h = refl
one-holder (Some North) (Some East) h = absurd (let e = h North in cc)
one-holder (Some North) (Some South) h = absurd (let e = h North in cc)
one-holder (Some North) (Some West) h = absurd (let e = h North in cc)
one-holder (Some East) (Some North) h = absurd (let e = h East in cc)
one-holder (Some East) (Some East) h = refl
one-holder (Some East) (Some South) h = absurd (let e = h East in cc)
one-holder (Some East) (Some West) h = absurd (let e = h East in cc)
one-holder (Some South) (Some North) h = absurd (let e = h South in cc)
one-holder (Some South) (Some East) h = absurd (let e = h South in cc)
one-holder (Some South) (Some South) h = refl
one-holder (Some South) (Some West) h = absurd (let e = h South in cc)
one-holder (Some West) (Some North) h = absurd (let e = h West in cc)
one-holder (Some West) (Some East) h = absurd (let e = h West in cc)
one-holder (Some West) (Some South) h = absurd (let e = h West in cc)
one-holder (Some West) (Some West) h = refl

same-holders : (one other : Deal) → hands_said one ≡ hands_said other → (card : Card) → holder_of one card ≡ holder_of other card
same-holders one other e card =
    one-holder (holder_of one card) (holder_of other card)
    (λ seat. same-holding one other seat card.suit
    (same-holdings one other seat card.suit (same-hand one other seat e)) card.rank)

-- ---- a board
same-printed : (one other : Printed) (section : Option Section) → SaysPrinted one section → SaysPrinted other section → SaySame one other
same-printed one other None h k = absurd h
same-printed one other (Some section) h k = same_section one other section h k

no-section : (printed : Printed) (section : Option Section) → section ≡ None → SaysPrinted printed section → ⊥
no-section printed section e h = subst (λ (s : Option Section). SaysPrinted printed s) e h

same-deals : (one other : Option Deal) (its others : Conditions) (printed printed' : Printed) (block : Block) →
    SaysDeal one its printed block → SaysDeal other others printed' block → AreSameDeals one other its others printed printed'
same-deals None None its others printed printed' block h k = tt
same-deals None (Some other) its others printed printed' block h k = no-section printed' block.section h.numbers k.numbers
same-deals (Some one) None its others printed printed' block h k = no-section printed block.section k.numbers h.numbers
same-deals (Some one) (Some other) its others printed printed' block h k =
    let facts = sym h.facts ∙ k.facts in
    record {
      holders = same-holders one other (sym h.hands ∙ k.hands);
      dealers = same-dealer its others facts;
      vulnerable = same-sides its others facts;
      numbers = same-printed printed printed' block.section h.numbers k.numbers;
    }

-- ---- the boards
same-boards : (one other : Shown) (place : ℕ) (boards boards' : List Board) (blocks : List Block) →
    SayBoards one place boards blocks → SayBoards other place boards' blocks → AreSameBoards one other place boards boards'
same-boards one other place [] [] [] h k = tt
same-boards one other place [] [] (block ∷ blocks) h k = absurd h
same-boards one other place [] (board' ∷ boards') [] h k = absurd k
same-boards one other place [] (board' ∷ boards') (block ∷ blocks) h k = absurd h
same-boards one other place (board ∷ boards) [] [] h k = absurd h
same-boards one other place (board ∷ boards) [] (block ∷ blocks) h k = absurd k
same-boards one other place (board ∷ boards) (board' ∷ boards') [] h k = absurd h
same-boards one other place (board ∷ boards) (board' ∷ boards') (block ∷ blocks) h k = (
  sym h.0.name ∙ k.0.name,
  same-deals board.deal board'.deal (conditions_at one place) (conditions_at other place) (one.printed place)
      (other.printed place) block h.0.deal k.0.deal,
  same-boards one other (place + 1) boards boards' blocks h.1 k.1,
)

some_same : {A : Type 0} {x y : A} → Some x ≡ Some y → x ≡ y
some_same e = cc

pub sheets_say_one_thing : SheetsSayOneThing
sheets_say_one_thing one other small small' e =
    let read = sheets_are_read one small in
    let read' = sheets_are_read other small' in
    let same : read.0 ≡ read'.0 = some_same (sym read.1 ∙ (ap sheet_in e ∙ read'.1)) in (
      sym read.2.title ∙ (ap (λ sheet. sheet.title) same ∙ read'.2.title),
      same-boards one other 0 one.boards other.boards read'.0.blocks
          (subst (λ (sheet : Sheet). SayBoards one 0 one.boards sheet.blocks) same read.3) read'.3,
    )

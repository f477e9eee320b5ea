-- What contracts see of a book.
use Rattle.std.specs.Prelude.{◌≡◌, ℕ, ◌<◌, ◌≤◌, ◌⊎◌, List, [], ◌∷◌, ◌++◌, length, Result, Ok, Err}
use Rattle.pbn_deals.specs.declared.boards.Board.{Board}
use Rattle.lease_book.specs.declared.events.Asked.{Asked}
use Rattle.lease_book.specs.declared.events.Reply.{Reply}
use Rattle.lease_book.specs.declared.events.Event.{Event}
use Rattle.lease_book.specs.declared.faults.BookFault.{BookFault}
use Rattle.lease_book.specs.declared.faults.BookFault.TheVariants.{TooManyBoards, Tries, OutOfMemory}
use Rattle.lease_book.specs.Histories.{Terms}
use Rattle.lease_book.specs.Replies.{IsReply}

-- its terms and its history
pub record Ledger : Type 0 where
  pub terms : Terms
  pub events : List Event

-- the book after it was asked this and replied this
abbrev pub with_event : Ledger → Asked → Reply → Ledger
with_event book asked reply =
    record { terms = book.terms; events = book.events ++ record { asked = asked; reply = reply } ∷ [] }

-- The reply is the one that the history names, and the event is added to the history.
pub record IsAnswered (old new : Ledger) (asked : Asked) (reply : Reply) : Type 0 where
  pub reply_is : IsReply old.terms old.events asked reply
  pub history : new ≡ with_event old asked reply

-- what is asked of the boards and of the tries
abbrev pub AreBoards : List Board → Type 0
AreBoards boards = length boards ≤ 4096

abbrev pub AreTries : ℕ → Type 0
AreTries tries = (1 ≤ tries) × (tries ≤ 1000)

-- the first fault of the terms, or, where they have none, that memory ran out
abbrev pub IsRefused : Terms → BookFault → Type 0
IsRefused terms TooManyBoards = 4096 < length terms.boards
IsRefused terms Tries = AreBoards terms.boards × ((terms.tries ≡ 0) ⊎ (1000 < terms.tries))
IsRefused terms OutOfMemory = AreBoards terms.boards × AreTries terms.tries

-- a new book with these terms and no history, or the first fault
abbrev pub IsMade : Terms → Result Ledger BookFault → Type 0
IsMade terms (Ok book) = AreBoards terms.boards × AreTries terms.tries × (book ≡ record { terms = terms; events = [] })
IsMade terms (Err fault) = IsRefused terms fault

-- What the desk promises.
use Rattle.std.specs.Prelude.{◌≡◌, ℕ, ◌<◌, ◌≤◌, List, [], ◌∷◌, ◌++◌, All, Option, Some, length, map, count_by, sum_by}
use Rattle.std.specs.Prelude.{nat_eq, Result, IfOk, OnErr}
use Rattle.crossbeam_channel.specs.Claims.{view, IsSeatAt}
use Rattle.crossbeam_channel.specs.Ends.{sends_on}
use Rattle.cards.specs.declared.faults.OutOfMemory.{OutOfMemory}
use Rattle.lease_book.specs.declared.events.Asked.{Asked}
use Rattle.lease_book.specs.declared.events.Event.{Event}
use Rattle.lease_book.specs.Histories.{Terms}
use Rattle.lease_book.specs.Books.{Ledger}
use Rattle.lease_book.specs.Replies.{IsReply, IsLegal}
use Rattle.lease_desk.specs.declared.receipts.Receipt.{Receipt}
use Rattle.lease_desk.specs.declared.views.SeenMessage.{SeenMessage}
use Rattle.lease_desk.specs.declared.ends.DeskEnds.{DeskEnds}
use Rattle.lease_desk.specs.declared.chairs.Chair.{Chair}
use Rattle.lease_desk.specs.declared.desk.Desk.{Desk}
use Rattle.lease_desk.specs.Receipts.{Stands, IsBefore, is_for}
use Rattle.lease_desk.specs.Views.{sitter}

abbrev pub terms_of : Desk → Terms
terms_of desk = record { boards = desk.boards.items; term = desk.term; tries = desk.tries }

-- how many chairs the desk has
abbrev pub chairs_of : Desk → ℕ
chairs_of desk = desk.chairs

abbrev pub number_of : Chair → ℕ
number_of chair = chair.number

abbrev pub receipts_in : Chair → List Receipt
receipts_in chair = chair.receipts.items

-- the history that the book had when the desk was opened
abbrev pub start_of : Desk → List Event
start_of desk = desk.start.value.events

-- the page with which the desk was opened
abbrev pub opening_of : Desk → SeenMessage
opening_of desk =
    record {
      before = start_of desk;
      book = record { terms = terms_of desk; events = [] };
      makers = [];
      chairs = desk.chairs;
    }

-- the chair's token is one of this channel, and knows the opening and what the chair keeps
pub record IsChairAt (ends : DeskEnds) (opening : Option SeenMessage) (chair : Chair) : Type 0 where
  pub seat : IsSeatAt (sends_on ends.sender) chair.token
  pub knows : view chair.token ≡ sitter opening chair.number chair.receipts.items

-- the chair came with the desk
abbrev pub IsChairOf : Desk → Chair → Type 0
IsChairOf desk chair = IsChairAt desk.ends (Some (opening_of desk)) chair

-- each number below one is there once, and there is no other
pub record AreAll (count : ℕ) (numbers : List ℕ) : Type 0 where
  pub count_is : length numbers ≡ count
  pub once : (number : ℕ) → number < count → count_by (nat_eq number) numbers ≡ 1

-- these are all the desk's chairs, and no others
pub record AreChairsOf (desk : Desk) (chairs : List Chair) : Type 0 where
  pub each : All (IsChairOf desk) chairs
  pub all : AreAll (chairs_of desk) (map number_of chairs)

-- a desk over these terms, with a book of this history, and with all its chairs, which have no receipts
pub record IsOpened (terms : Terms) (start : List Event) (count : ℕ) (desk : Desk) (chairs : List Chair)
    : Type 0 where
  pub terms_are : terms_of desk ≡ terms
  pub start_is : start_of desk ≡ start
  pub count_is : chairs_of desk ≡ count
  pub chairs_are : AreChairsOf desk chairs
  pub none_yet : All (λ chair. receipts_in chair ≡ []) chairs

-- The reply is the one that is named by a legal history of so many events, in which all that the chair was told before
-- stands.
pub record IsNamed (terms : Terms) (before : List Receipt) (asked : Asked) (told : Receipt) : Type 0 where
  pub earlier : List Event
  pub legal : IsLegal terms earlier
  pub stand : All (Stands earlier) before
  pub place_is : told.place ≡ length earlier
  pub reply_is : IsReply terms earlier asked told.event.reply

-- What a call tells its chair: its own request with the reply, in a place after all that the chair was told before.
pub record IsTold (terms : Terms) (asked : Asked) (before after : List Receipt) (told : Receipt) : Type 0 where
  pub asked_is : told.event.asked ≡ asked
  pub named : IsNamed terms before asked told
  pub receipts : after ≡ before ++ told ∷ []
  pub later : All (IsBefore told.place) before

-- What comes of a call from a chair. The chair stays one of the desk's, under its number. The call tells it so, or
-- memory ran out and it was told nothing.
pub record EndsCall (desk : Desk) (Tells : List Receipt → List Receipt → Receipt → Type 0) (old new : Chair)
    (answer : Result Receipt OutOfMemory)
    : Type 0 where
  pub chair : IsChairOf desk new
  pub number : number_of new ≡ number_of old
  pub ok : IfOk answer (Tells (receipts_in old) (receipts_in new))
  pub err : OnErr answer (receipts_in new ≡ receipts_in old)

-- how many receipts the chairs have
abbrev pub receipts_count : List Chair → ℕ
receipts_count chairs = sum_by (λ chair. length (receipts_in chair)) chairs

-- how many of them are for a place
abbrev pub receipts_for : ℕ → List Chair → ℕ
receipts_for place chairs = sum_by (λ chair. count_by (is_for place) (receipts_in chair)) chairs

-- what is kept of a chair when the desk is closed
abbrev pub shown_of : Chair → ℕ × List Receipt
shown_of chair = (number_of chair, receipts_in chair)

-- The closed book: its history is legal over the terms of the opening and begins with that of the opening. Each receipt
-- is in it at its place. Each later place is in one chair, once, and no earlier one is in any, and there are as many
-- later events as receipts. The chairs have the receipts that they had.
pub record IsClosed (terms : Terms) (start : List Event) (chairs : List Chair) (book : Ledger) (closed : List Chair)
    : Type 0 where
  pub terms_are : book.terms ≡ terms
  pub later : List Event
  pub events_are : book.events ≡ start ++ later
  pub legal : IsLegal terms book.events
  pub same : map shown_of closed ≡ map shown_of chairs
  pub stand : All (λ chair. All (Stands book.events) (receipts_in chair)) closed
  pub none : (place : ℕ) → place < length start → receipts_for place closed ≡ 0
  pub once : (place : ℕ) → length start ≤ place → place < length book.events → receipts_for place closed ≡ 1
  pub counted : receipts_count closed ≡ length later

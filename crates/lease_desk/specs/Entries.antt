-- How an event gets onto a page, and what a call leaves in a token.
use Rattle.std.specs.Prelude.{◌≡◌, ℕ, [], ◌∷◌, ◌++◌, All, Some, length}
use Rattle.lease_book.specs.declared.events.Asked.{Asked}
use Rattle.lease_book.specs.Replies.{IsReply, IsLegal}
use Rattle.lease_desk.specs.declared.receipts.Receipt.{Receipt}
use Rattle.lease_desk.specs.declared.views.SeenMessage.{SeenMessage}
use Rattle.lease_desk.specs.declared.views.View.{View}
use Rattle.lease_desk.specs.Receipts.{IsBefore}
use Rattle.lease_desk.specs.Views.{page_with, history_on}
use Rattle.lease_desk.specs.Desks.{IsNamed}

-- a chair has entered its request, with the reply that the page names
pub record IsEntered (old new : SeenMessage) (number : ℕ) (asked : Asked) (told : Receipt) : Type 0 where
  pub asked_is : told.event.asked ≡ asked
  pub legal : IsLegal old.book.terms (history_on old)
  pub place_is : told.place ≡ length (history_on old)
  pub reply_is : IsReply old.book.terms (history_on old) asked told.event.reply
  pub page_is : new ≡ page_with old number told.event

-- the view of a chair that has one more receipt
abbrev pub with_receipt : View → Receipt → View
with_receipt v told = record {
  number = v.number;
  receipts = v.receipts ++ told ∷ [];
  made = v.made;
  opening = v.opening;
  custody = v.custody;
  told = v.told;
}

-- what a call leaves in a chair's token
pub record IsAttended (v w : View) (asked : Asked) (told : Receipt) : Type 0 where
  pub asked_is : told.event.asked ≡ asked
  pub named : (opening : SeenMessage) → v.opening ≡ Some opening → IsNamed opening.book.terms v.receipts asked told
  pub knows : w ≡ with_receipt v told
  pub later : All (IsBefore told.place) v.receipts

-- The history on a page: what the book had when the desk was opened, and what chairs made since.
use Rattle.std.proofs.Common.{◌≡◌, ℕ, List, [], length, ap, arith}
use Rattle.std.proofs.lemmas.List.{drop_all, take-append-drop}
use Rattle.lease_desk.specs.declared.messages.Message.{Message}
use Rattle.lease_desk.specs.Views.{earlier_in, page_of, history_on}

-- where no chair has made an event, the history is that of the opening
pub none_later : (message : Message) → message.makers.items ≡ [] → (page_of message).book.events ≡ []
none_later message nobody =
    let none = ap (λ (l : List ℕ). length l) nobody in
    drop_all (earlier_in message) message.book.events (omega arith)

pub whole_history : (message : Message) → history_on (page_of message) ≡ message.book.events
whole_history message = take-append-drop (earlier_in message) message.book.events

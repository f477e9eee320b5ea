-- What the rule sees of a message, and what passes of the channel know.
use Rattle.std.specs.Prelude.{ℕ, ◌-◌, Bool, List, [], ◌∷◌, ◌++◌, length, take, drop, Option, None, Some}
use Rattle.lease_book.specs.declared.events.Event.{Event}
use Rattle.lease_desk.specs.declared.messages.Message.{Message}
use Rattle.lease_desk.specs.declared.receipts.Receipt.{Receipt}
use Rattle.lease_desk.specs.declared.views.SeenMessage.{SeenMessage}
use Rattle.lease_desk.specs.declared.views.View.{View}
use Rattle.lease_desk.specs.declared.views.Custody.TheVariants.{Before, Empty, Holds}
use Rattle.lease_desk.specs.Receipts.{receipts_from}

-- how many events of a message no chair has made: those that the book had when the desk was opened
abbrev pub earlier_in : Message → ℕ
earlier_in message = length message.book.events - length message.makers.items

abbrev pub page_of : Message → SeenMessage
page_of message =
    record {
      before = take (earlier_in message) message.book.events;
      book = record { terms = message.book.terms; events = drop (earlier_in message) message.book.events };
      makers = message.makers.items;
      chairs = message.chairs;
    }

-- the whole history on a page: the events before the opening, and those since
abbrev pub history_on : SeenMessage → List Event
history_on page = page.before ++ page.book.events

-- the page after a chair made an event
abbrev pub page_with : SeenMessage → ℕ → Event → SeenMessage
page_with page chair event =
    record {
      before = page.before;
      book = record { terms = page.book.terms; events = page.book.events ++ event ∷ [] };
      makers = page.makers ++ chair ∷ [];
      chairs = page.chairs;
    }

-- the receipts of a chair on a page
abbrev pub receipts_on : SeenMessage → ℕ → List Receipt
receipts_on page chair = receipts_from chair (length page.before) page.makers page.book.events

-- the token that opens the channel, before it sends
abbrev pub unopened : View
unopened = record { number = None; receipts = []; made = None; opening = None; custody = Before; told = None }

-- a token that knows nothing
abbrev pub blank : View
blank = record { number = None; receipts = []; made = None; opening = None; custody = Empty; told = None }

-- the token that makes chairs, after it made so many
abbrev pub usher : Option SeenMessage → ℕ → View
usher opening made =
    record { number = None; receipts = []; made = Some made; opening = opening; custody = Empty; told = None }

-- the token of a chair, between its calls
abbrev pub sitter : Option SeenMessage → ℕ → List Receipt → View
sitter opening number receipts =
    record { number = Some number; receipts = receipts; made = None; opening = opening; custody = Empty; told = None }

-- the same view with a page in hand, for good or not
abbrev pub holding : Bool → SeenMessage → View → View
holding final page v =
    record {
      number = v.number;
      receipts = v.receipts;
      made = v.made;
      opening = v.opening;
      custody = Holds final page;
      told = v.told;
    }

-- What is so of the numbers that a history publishes.
use Rattle.std.specs.Prelude.{◌≡◌, ℕ, List, Some, Contains}
use Rattle.std.specs.List.{filter_map}
use Rattle.std.specs.Option.{option_to_list}
use Rattle.cards.specs.Deal.{Deal}
use Rattle.pbn_deals.specs.declared.boards.Board.{Board}
use Rattle.strategies.specs.Values.{IsValue}
use Rattle.lease_book.specs.declared.entries.Entry.{Entry}
use Rattle.lease_book.specs.declared.events.Asked.TheVariants.{Lease}
use Rattle.lease_book.specs.declared.events.Reply.TheVariants.{Nothing}
use Rattle.lease_book.specs.declared.events.Event.{Event}
use Rattle.lease_book.specs.Histories.{Terms, published_in, deal_of}
use Rattle.lease_book.specs.Laws.{published_for}
use Rattle.lease_book.specs.Replies.{IsLegal}

-- each number published for an entry is the double-dummy value of its board's deal, for its declarer and denomination
abbrev pub AreValues : List Board → List Event → Type 0
AreValues boards events =
    (entry : Entry) (k : ℕ) → published_in boards events entry ≡ Some k →
    (deal : Deal) × (deal_of boards entry.board ≡ Some deal) × IsValue deal entry.declarer entry.trump k

-- the events publish one number for an entry and its twins, or none
abbrev pub ArePublishedOnce : List Board → List Event → Type 0
ArePublishedOnce boards events =
    (entry : Entry) → filter_map (published_for boards entry) events ≡ option_to_list (published_in boards events entry)

-- a history of the boards: each reply is the one that the events before it name, each number published is the
-- double-dummy value of its deal, and is published once
pub record IsTrueHistory (terms : Terms) (events : List Event) : Type 0 where
  pub legal : IsLegal terms events
  pub values : AreValues terms.boards events
  pub once : ArePublishedOnce terms.boards events

-- a lease was asked for, and none was given: no entry was open any more
abbrev pub IsGivenOut : List Event → Type 0
IsGivenOut events = (now : ℕ) × Contains events (record { asked = Lease now; reply = Nothing })

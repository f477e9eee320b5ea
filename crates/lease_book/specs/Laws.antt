-- What is published for an entry and its twins.
use Rattle.std.specs.Prelude.{ℕ, List, Option}
use Rattle.pbn_deals.specs.declared.boards.Board.{Board}
use Rattle.lease_book.specs.declared.entries.Entry.{Entry}
use Rattle.lease_book.specs.declared.events.Event.{Event}
use Rattle.lease_book.specs.Twins.{are_twins}
use Rattle.lease_book.specs.Histories.{published_when}

-- what an event publishes for an entry: a number for a twin of it
abbrev pub published_for : List Board → Entry → Event → Option ℕ
published_for boards entry event = published_when (are_twins boards entry) event.asked event.reply

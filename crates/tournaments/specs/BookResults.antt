-- The results of a book of leases: those that its history publishes.
use Rattle.std.specs.Prelude.{ℕ, List}
use Rattle.pbn_deals.specs.declared.boards.Board.{Board}
use Rattle.lease_book.specs.declared.events.Event.{Event}
use Rattle.lease_book.specs.Histories.{published_in}
use Rattle.tables.specs.TablesText.{Results}

-- the numbers published for a board's entries, or for their twins
abbrev pub book_results : List Board → List Event → ℕ → Results
book_results boards events board declarer denomination =
    published_in boards events (record { board = board; declarer = declarer; trump = denomination })

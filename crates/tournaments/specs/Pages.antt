-- The page of a whole tournament's tables.
use Rattle.std.specs.Prelude.{◌≡◌, ℕ, List, Option, All, IfSome}
use Rattle.pbn_deals.specs.declared.boards.Board.{Board}
use Rattle.lease_book.specs.declared.events.Event.{Event}
use Rattle.tournaments.specs.BookResults.{book_results}
use Rattle.tables.specs.declared.pars.BoardPar.{BoardPar}
use Rattle.tables.specs.ParText.{IsSmallPar}
use Rattle.tables.specs.TablesText.{printed_with, tables_text}

-- pars of boards, in their order
abbrev pub Pars : Type 0
Pars = List (Option BoardPar)

-- their numbers are small enough to be printed
abbrev pub AreSmallPars : Pars → Type 0
AreSmallPars pars = All (λ par. IfSome par IsSmallPar) pars

-- the text of the boards, with these pars and the numbers that the history publishes
abbrev pub history_text : Pars → List Board → List Event → List ℕ
history_text pars boards events = tables_text boards (printed_with pars (book_results boards events))

-- the page is the text of all boards with these pars
abbrev pub AreTables : Pars → List ℕ → List Board → List Event → List ℕ → Type 0
AreTables pars text boards events page = page ≡ history_text pars boards events

-- The results of a book with these pars.
use Rattle.lease_book.specs.Books.{Ledger}
use Rattle.tables.specs.declared.results.Renews.{Renews}
use Rattle.tournaments.specs.Pages.{Pars}

pub record BookResults : Type 0 where
  pub book : Ledger
  pub renews : Renews
  pub pars : Pars

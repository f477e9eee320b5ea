-- How many tables are complete.
use Rattle.std.proofs.Common.{◌≡◌, ℕ, List, [], refl}
use Rattle.pbn_deals.specs.declared.boards.Board.{Board}
use Rattle.tables.specs.TablesText.{Results, printed_with, complete_count}
use Rattle.tournaments.specs.Pages.{Pars}

-- the pars don't count
pub complete_alike : (boards : List Board) (pars : Pars) (results : ℕ → Results) → complete_count boards (printed_with pars results) ≡ complete_count boards (printed_with [] results)
unfolding complete_count
complete_alike boards pars results = refl

-- How many different deals boards have.
use Rattle.std.specs.Prelude.{ℕ, zero, suc, ◌+◌, List, length}
use Rattle.std.specs.Prelude.{if◌then◌else◌}
use Rattle.pbn_deals.specs.declared.boards.Board.{Board}
use Rattle.lease_book.specs.Twins.{is_first}

-- how many different deals the boards before a number have, and all boards
abbrev pub deals_before : List Board → ℕ → ℕ
deals_before boards zero = 0
deals_before boards (suc number) = deals_before boards number + (if is_first boards number then 1 else 0)

abbrev pub deal_count : List Board → ℕ
deal_count boards = deals_before boards (length boards)

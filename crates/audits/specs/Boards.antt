-- The board of a section.
use Rattle.std.specs.Prelude.{◌≡◌, ℕ, true, List, Option, Some, MatchOption}
use Rattle.cards.specs.Deal.{Deal}
use Rattle.pbn_deals.specs.declared.boards.Board.{Board}
use Rattle.lease_book.specs.Histories.{deal_of}
use Rattle.lease_book.specs.Twins.{is_first}

-- the number is that of the first board with this deal; there is none if no board has it
abbrev pub IsBoardWith : List Board → Deal → Option ℕ → Type 0
IsBoardWith boards deal found =
    MatchOption found
    ((number : ℕ) → deal_of boards number ≡ Some deal → ⊥)
    (λ number. (deal_of boards number ≡ Some deal) × (is_first boards number ≡ true))

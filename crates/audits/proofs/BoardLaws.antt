-- The first board with a deal.
use Rattle.std.proofs.Common.{◌≡◌, ℕ, ◌<◌, true, false, List, length, None, Some, ◌∙◌, ap, subst, arith}
use Rattle.std.proofs.lemmas.Bool.{both_ways}
use Rattle.cards.specs.Deal.{Deal}
use Rattle.pbn_deals.specs.declared.boards.Board.{Board}
use Rattle.lease_book.specs.Histories.{deal_of}
use Rattle.lease_book.specs.Twins.{is_this_deal, first_board, is_first}
use Rattle.lease_book.proofs.TwinLaws.{this_deal, this_itself, deal_there, first_below, first_has, first_is_first}
use Rattle.audits.specs.Boards.{IsBoardWith}

-- no board before this one has the deal
abbrev pub NoneBefore : List Board → Deal → ℕ → Type 0
NoneBefore boards deal number = (before : ℕ) → before < number → is_this_deal deal (deal_of boards before) ≡ false

differs : (boards : List Board) (deal : Deal) (number : ℕ) → is_this_deal deal (deal_of boards number) ≡ false → deal_of boards number ≡ Some deal → ⊥
differs boards deal number not has = both_ways (is_this_deal deal (deal_of boards number)) not (ap (is_this_deal deal) has ∙ this_itself deal)

pub is_board_with : (boards : List Board) (deal : Deal) (number : ℕ) → NoneBefore boards deal number → is_this_deal deal (deal_of boards number) ≡ true → IsBoardWith boards deal (Some number)
is_board_with boards deal number none is = (has, subst (λ (n : ℕ). is_first boards n ≡ true) same (first_is_first boards number deal has))
  where
    has : deal_of boards number ≡ Some deal
    has = this_deal deal (deal_of boards number) is

    not_before : first_board boards number < number → ⊥
    not_before l = differs boards deal (first_board boards number) (none (first_board boards number) l) (first_has boards number deal has)

    same : first_board boards number ≡ number
    same = omega (arith, first_below boards number deal has number has, not_before)

pub no_board_with : (boards : List Board) (deal : Deal) → NoneBefore boards deal (length boards) → IsBoardWith boards deal None
no_board_with boards deal none number has = differs boards deal number (none number (deal_there boards number deal has)) has

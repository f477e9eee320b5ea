-- Twins: entries of one declarer and denomination whose boards have the same deal. The names of the boards don't
-- matter.
use Rattle.std.specs.Prelude.{◌≡◌, ℕ, ◌≤◌, Bool, true, false, ◌&&◌, List}
use Rattle.std.specs.Prelude.{Option, None, Some, is_some, nat_eq, slice_get}
use Rattle.std.specs.List.{position_or_len}
use Rattle.cards.specs.Deal.{Deal, is_same_deal}
use Rattle.pbn_deals.specs.declared.boards.Board.{Board}
use Rattle.lease_book.specs.declared.entries.Entry.{Entry}
use Rattle.lease_book.specs.Entries.{contract_place, place_of}

-- the deal of a board; a board that isn't there has none
abbrev pub deal_of_board : Option Board → Option Deal
deal_of_board None = None
deal_of_board (Some board) = board.deal

abbrev pub deal_of : List Board → ℕ → Option Deal
deal_of boards number = deal_of_board (slice_get boards number)

-- whether there is a deal, and it is this one
abbrev pub is_this_deal : Deal → Option Deal → Bool
is_this_deal deal None = false
is_this_deal deal (Some other) = is_same_deal deal other

abbrev pub are_equal_deals : Option Deal → Option Deal → Bool
are_equal_deals None other = false
are_equal_deals (Some deal) other = is_this_deal deal other

-- Whether two entries are twins: both boards have a deal, it is the same, and so are declarer and denomination. An
-- entry whose board has a deal is a twin of itself; one whose board has none, or isn't there, has no twins.
abbrev pub are_twins : List Board → Entry → Entry → Bool
are_twins boards one other =
    are_equal_deals (deal_of boards one.board) (deal_of boards other.board)
    && nat_eq (contract_place one.declarer one.trump) (contract_place other.declarer other.trump)

-- it is a twin of the entry, and the least of them
pub record IsLeastTwin (boards : List Board) (entry twin : Entry) : Type 0 where
  pub is_twin : are_twins boards entry twin ≡ true
  pub least : (other : Entry) → are_twins boards entry other ≡ true → place_of twin ≤ place_of other

-- the least twin of an entry, where its board has this deal; the entry itself where its board has none
abbrev pub IsTwinOn : Option Deal → List Board → Entry → Entry → Type 0
IsTwinOn None boards entry twin = twin ≡ entry
IsTwinOn (Some deal) boards entry twin = IsLeastTwin boards entry twin

abbrev pub IsTwin : List Board → Entry → Entry → Type 0
IsTwin boards entry twin = IsTwinOn (deal_of boards entry.board) boards entry twin

-- whether a board has this deal
abbrev pub is_dealt : Deal → Board → Bool
is_dealt deal board = is_this_deal deal board.deal

-- the number of the first board with the deal of this one; of this one itself, where it has none
abbrev pub first_with : List Board → Option Deal → ℕ → ℕ
first_with boards None number = number
first_with boards (Some deal) number = position_or_len (is_dealt deal) boards

abbrev pub first_board : List Board → ℕ → ℕ
first_board boards number = first_with boards (deal_of boards number) number

-- whether a board has a deal, and no board before it has the same
abbrev pub is_first : List Board → ℕ → Bool
is_first boards number = is_some (deal_of boards number) && nat_eq (first_board boards number) number

-- an entry's least twin, which is on the first board with its deal (a law says so); the entry itself, where it has none
abbrev pub twin_of : List Board → Entry → Entry
twin_of boards entry =
    record { board = first_board boards entry.board; declarer = entry.declarer; trump = entry.trump }

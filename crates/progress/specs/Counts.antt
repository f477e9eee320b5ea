-- What is counted of a run: by its boards, and by the boards for which a result was published, in the order in which
-- they came. A result is published for the first board with a deal, and counts for each board that has it.
use Rattle.std.specs.Prelude.{◌≡◌, ℕ, ◌+◌, ◌*◌, ◌-◌, ◌^◌, ◌<◌, min, Bool, false, List, [], ◌∷◌, ◌++◌, count_by}
use Rattle.std.specs.Prelude.{sum_by}
use Rattle.std.specs.Prelude.{Option, None, Some, is_some, nat_eq, nat_le, slice_index, if◌then◌else◌}
use Rattle.std.specs.List.{position_or_len}
use Rattle.cards.specs.Deal.{Deal}
use Rattle.pbn_deals.specs.declared.boards.Board.{Board}
use Rattle.lease_book.specs.Books.{AreBoards}
use Rattle.lease_book.specs.Twins.{is_dealt}
use Rattle.progress.specs.declared.counts.Counts.{Counts}

-- whether there is a deal, and the first board with it has this number
abbrev pub is_first_with : List Board → Option Deal → ℕ → Bool
is_first_with boards None number = false
is_first_with boards (Some deal) number = nat_eq (position_or_len (is_dealt deal) boards) number

-- how many boards have the deal of the first board with it, which has this number
abbrev pub sharing_count : List Board → ℕ → ℕ
sharing_count boards number = count_by (λ board. is_first_with boards board.deal number) boards

-- how many boards have a deal
abbrev pub dealt_count : List Board → ℕ
dealt_count boards = count_by (λ board. is_some board.deal) boards

-- how many results there may be: twenty for each board with a deal
abbrev pub possible_count : List Board → ℕ
possible_count boards = 20 * dealt_count boards

-- how many results of a board were published
abbrev pub results_of : List Board → List ℕ → Board → ℕ
results_of boards published board = count_by (is_first_with boards board.deal) published

-- how many results of all boards
abbrev pub result_count : List Board → List ℕ → ℕ
result_count boards published = sum_by (results_of boards published) boards

-- how many boards have all twenty
abbrev pub finished_count : List Board → List ℕ → ℕ
finished_count boards published = count_by (λ board. nat_le 20 (results_of boards published board)) boards

-- The counts are those of these boards, after results were published for these. (What is kept of a board ends at 255,
-- and all results at the greatest u64.)
pub record AreCounted (boards : List Board) (published : List ℕ) (counts : Counts) : Type 0 where
  pub boards_are : counts.boards ≡ dealt_count boards
  pub results_are : counts.results ≡ possible_count boards
  pub published_are : counts.published ≡ min (result_count boards published) (2 ^ 64 - 1)
  pub finished_are : counts.finished ≡ finished_count boards published
  pub sharing_are : (number : ℕ) → number < 4096 → slice_index counts.sharing number ≡ sharing_count boards number
  pub of_board_are : (number : ℕ) → number < 4096 → slice_index counts.of_board number
      ≡ min (count_by (nat_eq number) published) 255

-- the counts are those of these boards, of which there are no more than a book has, before any result
abbrev pub IsBegun : List Board → Counts → Type 0
IsBegun boards counts = AreBoards boards → AreCounted boards [] counts

-- one result more was published, for this board
abbrev pub AddsResult : Counts → Counts → ℕ → Type 0
AddsResult old new board =
    (boards : List Board) (published : List ℕ) →
    AreBoards boards → AreCounted boards published old → AreCounted boards (published ++ board ∷ []) new

-- how many boards share a deal, once one more shares that of this first one: a u16 at most
abbrev pub with_one_more : List ℕ → ℕ → ℕ → ℕ
with_one_more sharing first number =
    if nat_eq first number then min (slice_index sharing number + 1) 65535 else slice_index sharing number

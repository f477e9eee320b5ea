-- The boards so far are counted: how many have a deal, and of each place how many have the deal of the first board with it.
use Rattle.std.proofs.Common.{◌≡◌, ℕ, ◌*◌, ◌-◌, ◌^◌, ◌<◌, min, take, get_or, count_by, is_some}
use Rattle.pbn_deals.specs.declared.boards.Board.{Board}
use Rattle.progress.specs.Counts.{is_first_with}
use Rattle.progress.proofs.counts.Counts.begin.Given as goal

abbrev pub invariant-loop-number : goal.invariant-loop-number
invariant-loop-number l =
    record {
      boards_are : l.self.boards ≡ min (count_by (λ (board : Board). is_some board.deal) (take l.number l.boards)) (2 ^ 64 - 1);
      results_are : l.self.results ≡ min (20 * count_by (λ (board : Board). is_some board.deal) (take l.number l.boards)) (2 ^ 64 - 1);
      published_are : l.self.published ≡ 0;
      finished_are : l.self.finished ≡ 0;
      sharing_are : (number : ℕ) → number < 4096 → get_or l.self.sharing number 0 ≡ min (count_by (λ (board : Board). is_first_with l.boards board.deal number) (take l.number l.boards)) 65535;
      of_board_are : (number : ℕ) → number < 4096 → get_or l.self.of_board number 0 ≡ 0;
    }

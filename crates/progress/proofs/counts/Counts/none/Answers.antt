use Rattle.std.proofs.Common.{refl}
use Rattle.std.proofs.lemmas.List.{get_or-replicate}
use Rattle.progress.proofs.counts.Counts.none.Goals as goal

pub returns : goal.returns
returns c =
    record {
      boards_are = refl;
      results_are = refl;
      published_are = refl;
      finished_are = refl;
      sharing_are = λ number within. get_or-replicate 4096 number 0 0 within;
      of_board_are = λ number within. get_or-replicate 4096 number 0 0 within;
    }

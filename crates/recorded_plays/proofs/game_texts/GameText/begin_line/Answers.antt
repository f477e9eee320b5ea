use Rattle.std.proofs.Common.{[], ◌∷◌, false, refl}
use Rattle.pbn_deals.specs.Pieces as seen
use Rattle.recorded_plays.proofs.Taken.{on_ok, reopened}
use Rattle.recorded_plays.proofs.game_texts.GameText.begin_line.Goals as goal

pub returns : goal.returns
returns c =
    on_ok c.take.result c.take.ensures (λ takes pieces is_open h. takes pieces (seen.Space 32 ∷ []) (reopened c.args.self.now false h) refl)

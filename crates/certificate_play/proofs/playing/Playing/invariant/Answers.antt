use Rattle.std.proofs.Common.{subst}
use Rattle.certificate_play.specs.Promises.{Promise, IsKept}
use Rattle.certificate_play.proofs.PromiseLaws.{is_kept}
use Rattle.certificate_play.proofs.playing.Playing.invariant.Goals as goal

pub returns-clause-kept : goal.returns-clause-kept
returns-clause-kept c =
    let promise : Promise = record { position = c.self.inside.table; side = c.self.inside.side; tricks = c.self.inside.promised } in
    subst IsKept c.self.view_is (is_kept promise c.self.inside.step c.self.invariant.kept)

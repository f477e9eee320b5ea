use Rattle.std.proofs.Common.{Some, arith, subst}
use Rattle.std.proofs.lemmas.List.Elements.{All-pop}
use Rattle.play_pages.specs.Tasks.{IsShare}
use Rattle.play_pages.proofs.NoteLaws.{noted_with}
use Rattle.play_pages.proofs.threads.gather.Goals as goal

pub loop-share-preserved : goal.loop-share-preserved
loop-share-preserved g c =
    let inv = c.loop-share.invariant in
    let may_find = g.S.PlaySolver.may_find_play c.args.solver.now in
    let games = c.args.games.now in
    let right = IsShare may_find c.args.query games in
    let left = All-pop right c.loop-share.shares.items c.pop.new.self.items (Some c.in-Some.share) c.in-Some.ensures.items inv.left in
    let done = subst right c.in_ok-share.was left.1 in
    record {
      len = omega (arith, c.note_all.ensures.len, inv.len);
      noted = noted_with may_find c.args.query games c.loop-share.noted.items c.note_all.new.noted.items c.in_ok-share.field-0.items inv.noted done c.note_all.ensures.notes;
      left = left.0;
    }

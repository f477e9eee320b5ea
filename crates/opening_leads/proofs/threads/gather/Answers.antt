use Rattle.std.proofs.Common.{Some, arith, subst}
use Rattle.std.proofs.lemmas.List.Elements.{All-pop}
use Rattle.opening_leads.specs.Tasks.{IsShare}
use Rattle.opening_leads.proofs.NoteLaws.{noted_with}
use Rattle.opening_leads.proofs.threads.gather.Goals as goal

pub loop-share-preserved : goal.loop-share-preserved
loop-share-preserved g c =
    let inv = c.loop-share.invariant in
    let may_find = g.S.CardSolver.may_find_cards c.args.means.now.solver.now in
    let boards = c.args.boards.now in
    let right = IsShare may_find c.args.budget boards in
    let left = All-pop right c.loop-share.shares.items c.pop.new.self.items (Some c.in-Some.share) c.in-Some.ensures.items inv.left in
    let done = subst right c.in_ok-share.was left.1 in
    record {
      len = omega (arith, c.note_all.ensures.len, inv.len);
      noted = noted_with may_find c.args.budget boards c.loop-share.noted.items c.note_all.new.noted.items c.in_ok-share.field-0.items inv.noted done c.note_all.ensures.notes;
      left = left.0;
    }

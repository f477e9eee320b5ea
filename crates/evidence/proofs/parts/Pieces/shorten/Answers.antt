use Rattle.std.proofs.Common.{take, refl, inl, inr, arith}
use Rattle.evidence.proofs.PieceLemmas.{shortened, length-shortened, length-cut}
use Rattle.evidence.proofs.parts.Pieces.shorten.Goals as goal

pub returns-then-searched-le-MOST_BYTES-clause-bytes : goal.returns-then-searched-le-MOST_BYTES-clause-bytes
returns-then-searched-le-MOST_BYTES-clause-bytes g c = record { cut = _; parts = refl; let_go = inr (refl, refl); counted = omega arith }

pub returns-clause-bytes : goal.returns-clause-bytes
returns-clause-bytes g c =
    let held = c.args.self.now.held in
    let searched = c.saturating_sub-searched.result in
    let left = c.remove_front.ensures in
    let many = held.ok.0 in
    record {
      cut = take searched held.items;
      parts = shortened held.items searched _ left;
      let_go = inl (
        refl,
        omega (arith, length-cut held.items searched (omega arith)),
        omega (arith, length-shortened held.items searched _ left (omega arith)),
      );
      counted = rw (length-cut held.items searched (omega arith)) c.saturating_add-self.ensures;
    }

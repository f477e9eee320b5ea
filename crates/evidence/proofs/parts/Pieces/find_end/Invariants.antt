-- No title stands in what was read before the place from which the next search begins.
use Rattle.std.proofs.Common.{◌≡◌, ℕ, ◌+◌, ◌-◌, ◌^◌, ◌<◌, ◌≤◌, List, ◌++◌, length, ◌⊎◌}
use Rattle.std.specs.Prelude.{min}
use Rattle.memchr.specs.Find.{OccursAt}
use Rattle.cards.specs.Devices.{TakesWhereTold}
use Rattle.evidence.specs.Pieces.{border}
use Rattle.evidence.specs.Ends.{IsPassed}
use Rattle.evidence.proofs.parts.Pieces.find_end.Given as goal

abbrev pub invariant-loop-turn : goal.invariant-loop-turn
invariant-loop-turn g l =
    let old = g.S.Source.state l.initial.self.source in
    let new = g.S.Source.state l.self.source in
    record {
      taken : List ℕ;
      passed : List ℕ;
      given : TakesWhereTold old.bytes new.bytes taken;
      parts : l.initial.self.held.items ++ taken ≡ passed ++ l.self.held.items;
      long : IsPassed l.is_long passed;
      room : (length passed ≡ 0) ⊎ (6 ≤ length l.self.held.items);
      within : l.searched ≤ length l.self.held.items;
      none : (place : ℕ) → place < length passed + l.searched → OccursAt (passed ++ l.self.held.items) border place → ⊥;
      counted : l.self.before ≡ min (l.initial.self.before + length passed) (2 ^ 64 - 1);
      none_failed : new.failed ≡ old.failed;
      turns : l._turn ≤ length taken;
    }

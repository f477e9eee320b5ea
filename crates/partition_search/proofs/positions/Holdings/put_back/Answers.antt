use Rattle.std.proofs.Common.{◌∙◌, ap, ℕ}
use Rattle.std.specs.Prelude.{slice_set}
use Rattle.std.proofs.lemmas.Nat.{and_mask}
use Rattle.partition_search.proofs.LengthLaws.{restored}
use Rattle.partition_search.proofs.positions.Holdings.put_back.Goals as goal

pub returns-clause-restores : goal.returns-clause-restores
returns-clause-restores c = λ held card plays is.
    ap (λ (place : ℕ). record { hands = slice_set c.args.self.now.hands place c.args.before.hand; lengths = c.args.before.lengths }) (and_mask c.args.seat 2)
    ∙ restored held c.args.self.now c.args.seat card c.args.before plays is

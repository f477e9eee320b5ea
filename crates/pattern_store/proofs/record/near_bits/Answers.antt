use Rattle.std.proofs.Common.{◌≡◌, ◌-◌, ◌*◌, ◌%◌, ◌^◌, sym, subst, arith}
use Rattle.std.proofs.lemmas.Nat.{one_shl}
use Rattle.pattern_store.specs.Record.{MarksSuit}
use Rattle.pattern_store.proofs.OwnerWords.{marks_ones}
use Rattle.pattern_store.proofs.record.near_bits.Goals as goal

pub returns-clause-marks : goal.returns-clause-marks
returns-clause-marks c =
    let count = c.min.result in
    let shifted : 1 * 2 ^ (2 * count) % 2 ^ 64 ≡ 2 ^ (2 * count) = one_shl (2 * count) 64 (omega arith) in
    subst (λ x. MarksSuit 0 c.args.depth (x - 1)) (sym shifted)
    (marks_ones 0 c.args.depth count (omega arith) (λ place lt named. omega arith) (λ place lt other. omega arith))

use Rattle.std.proofs.Common.{◌≡◌, ◌^◌, ◌≤◌, arith}
use Rattle.std.proofs.Math.Pow.{pow_mono}
use Rattle.std.proofs.lemmas.Bool.Decides.{nat_tests}
use Rattle.std.proofs.lemmas.Nat.{pow-add, pow_pos}
use Rattle.pattern_store.specs.Shapes.{room_in}
use Rattle.pattern_store.proofs.spans.Span.next_doublings.Goals as goal

pub returns-then-self-lt-LENGTHS : goal.returns-then-self-lt-LENGTHS
returns-then-self-lt-LENGTHS c =
    let span = c.args.self.now in
    let room : room_in span ≡ 2 ^ span.doublings = grind (arith, nat_tests) in
    omega (arith, pow-add 2 span.doublings 1, pow_pos span.doublings)

pub returns-else-self-lt-LENGTHS : goal.returns-else-self-lt-LENGTHS
returns-else-self-lt-LENGTHS c =
    let span = c.args.self.now in
    let room : room_in span ≡ 2 ^ span.doublings = grind (arith, nat_tests) in
    let long : 2 ^ 15 ≤ 2 ^ span.doublings = pow_mono {i = 15} (omega arith) in
    omega arith

-- Numbers up to 53.
use Rattle.std.proofs.Common.{ℕ, ◌<◌, ◌≤◌, ◌^◌, arith}
use Rattle.std.specs.Fmt.{decimal}
use Rattle.pbn_deals.specs.Reading.{Lacks}
use Rattle.evidence.proofs.WordLemmas.{decimal-lacks}

short : (n : ℕ) → n ≤ 53 → n < 2 ^ 64
short n few = omega arith

pub count-lacks : (n : ℕ) → n ≤ 53 → Lacks 10 (decimal n)
count-lacks n few = decimal-lacks 10 n (omega arith) (short n few)

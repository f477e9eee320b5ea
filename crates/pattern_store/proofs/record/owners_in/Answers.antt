use Rattle.std.proofs.Common.{◌+◌, ◌/◌, ◌%◌, arith}
use Rattle.std.proofs.lemmas.Nat.{and_mask}
use Rattle.std.specs.Int.Bits.{bit_and}
use Rattle.pattern_store.proofs.OwnerWords.{pairs_of}
use Rattle.pattern_store.proofs.record.owners_in.Goals as goal

pub returns : goal.returns
returns c =
    let depths = c.args.depths in
    let pairs = (bit_and depths 3855 + bit_and (depths / 16) 3855) % 65536 in
    omega (arith, pairs_of depths, pairs_of (depths / 16), and_mask ((pairs + pairs / 256) % 65536) 8)

use Rattle.std.proofs.Common.{◌≡◌, ◌∙◌, arith, length, length-take, rules}
use Rattle.streams.proofs.InputLemmas.{takes_twice}
use Rattle.streams.proofs.inputs.read_all.Goals as goal

pub returns-in-Err-extend_from_slice-clause-fault : goal.returns-in-Err-extend_from_slice-clause-fault
returns-in-Err-extend_from_slice-clause-fault g c =
    let read = c.in-Ok.ensures in
    record {
      lost = _;
      first = takes_twice _ _ _ _ _ c.loop-turn.invariant.front read.given;
      counted = read.none_failed ∙ c.loop-turn.invariant.none_failed;
    }

pub loop-turn-preserved : goal.loop-turn-preserved
loop-turn-preserved g c =
    let read = c.in-Ok.ensures in
    let buffer = c.read.new.buffer in
    let count = c.in-Ok.count in
    let room : length buffer ≡ 16384 = omega arith in
    let within = read.within in
    record {
      front = rw c.in_default.ensures.items (takes_twice _ _ _ _ _ c.loop-turn.invariant.front read.given);
      none_failed = read.none_failed ∙ c.loop-turn.invariant.none_failed;
      turns = omega (arith, c.in_default.ensures.len, length-take count buffer, within);
      room = room;
    }

pub returns-in-Err-clause-all : goal.returns-in-Err-clause-all
returns-in-Err-clause-all g c = search rules

pub returns-then-is_end-clause-all : goal.returns-then-is_end-clause-all
returns-then-is_end-clause-all g c = search rules

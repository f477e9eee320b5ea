-- What the hands read so far name was put, and the rest is read for the seats that are left.
use Rattle.std.proofs.Common.{◌-◌}
use Rattle.pbn_deals.specs.DealValue.{words_of}
use Rattle.pbn_deals.proofs.HandLemmas.{HandsRead}
use Rattle.pbn_deals.proofs.deal_values.read_hands.Given as goal

abbrev pub invariant-loop-hand : goal.invariant-loop-hand
invariant-loop-hand l = HandsRead l.dealing l.seat (4 - l._hand) (words_of l.rest) (words_of l.fn.text) l.fn.first

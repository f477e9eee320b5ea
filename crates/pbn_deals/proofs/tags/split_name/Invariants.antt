-- All bytes so far belong to the name.
use Rattle.std.proofs.Common.{◌≡◌, ◌++◌, take, drop}
use Rattle.pbn_deals.specs.Tags.{name_front, after_name}
use Rattle.pbn_deals.proofs.tags.split_name.Given as goal

abbrev pub invariant-loop-i : goal.invariant-loop-i
invariant-loop-i l = record {
  front : take l.i l.text ++ name_front (drop l.i l.text) ≡ name_front l.text;
  after : after_name (drop l.i l.text) ≡ after_name l.text;
}

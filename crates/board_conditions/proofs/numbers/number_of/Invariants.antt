-- The number that the digits so far write.
use Rattle.std.proofs.Common.{◌≡◌, ◌≤◌, true, take}
use Rattle.std.specs.Char.{is_ascii_digit}
use Rattle.std.specs.List.{list_all}
use Rattle.std.specs.Str.Parse.{digits_value}
use Rattle.board_conditions.specs.Numbers.{in_cycle}
use Rattle.board_conditions.proofs.numbers.number_of.Given as goal

abbrev pub invariant-loop-byte : goal.invariant-loop-byte
invariant-loop-byte l = record {
  digits : list_all is_ascii_digit (take l.byte-index l.name) ≡ true;
  number : l.number ≡ in_cycle (digits_value 10 (take l.byte-index l.name));
  below : l.number ≤ 16;
}

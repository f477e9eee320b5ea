-- What a source and a sink over memory are to a contract, and what each call does to them.
use Rattle.std.specs.Prelude.{◌≡◌, ◌≢◌, ℕ, ◌-◌, ◌<◌, List, ◌++◌, length, take, drop}
use Rattle.std.specs.Prelude.{min, max, Option, None, Some, Result, Ok, Err, ◌⊎◌}
use Rattle.cards.specs.declared.devices.DeviceFault.{DeviceFault}
use Rattle.cards.specs.Devices.{Device, one_more}

-- A source: the bytes that are left, the greatest piece of a call, how many calls come before the one that fails
-- (`None` where none does), and how many have failed.
pub record Supply : Type 0 where
  pub left : List ℕ
  pub greatest_piece : ℕ
  pub calls_before_failure : Option ℕ
  pub failed : ℕ

-- what such a source tells
abbrev pub supply_device : Supply → Device
supply_device supply = record { bytes = Some supply.left; failed = supply.failed }

-- A sink: the bytes that it holds, how many it can hold, the greatest piece of a call, and how many calls have failed.
pub record Stock : Type 0 where
  pub bytes : List ℕ
  pub room : ℕ
  pub greatest_piece : ℕ
  pub failed : ℕ

-- what such a sink tells
abbrev pub stock_device : Stock → Device
stock_device stock = record { bytes = Some stock.bytes; failed = stock.failed }

-- how many calls come before the one that fails, after a call that did not fail
abbrev pub one_call_less : Option ℕ → Option ℕ
one_call_less None = None
one_call_less (Some calls) = Some (calls - 1)

-- the greatest piece of a call is at least 1
abbrev pub piece_of : ℕ → ℕ
piece_of greatest_piece = max greatest_piece 1

-- A read into a buffer: the set call fails and no other; each other call hands out as much as is there, has room and is
-- no more than the greatest piece.
abbrev pub ReadsSupply : Supply → Supply → List ℕ → List ℕ → Result ℕ DeviceFault → Type 0
ReadsSupply old new buffer buffer' (Ok n) =
    (old.calls_before_failure ≢ Some 0) ×
    (n ≡ min (min (length old.left) (length buffer)) (piece_of old.greatest_piece)) ×
    (buffer' ≡ take n old.left ++ drop n buffer) ×
    (new ≡ record old { left = drop n old.left; calls_before_failure = one_call_less old.calls_before_failure })
ReadsSupply old new buffer buffer' (Err fault) =
    (old.calls_before_failure ≡ Some 0) ×
    (buffer' ≡ buffer) ×
    (new ≡ record old { calls_before_failure = None; failed = one_more old.failed })

-- A write of a piece: it fails where the piece has a byte and no room is left, and nowhere else; each other call takes
-- as much of the piece as there is room for and is no more than the greatest piece.
abbrev pub WritesStock : Stock → Stock → List ℕ → Result ℕ DeviceFault → Type 0
WritesStock old new piece (Ok n) =
    ((length piece ≡ 0) ⊎ (length old.bytes < old.room)) ×
    (n ≡ min (min (length piece) (old.room - length old.bytes)) (piece_of old.greatest_piece)) ×
    (new ≡ record old { bytes = old.bytes ++ take n piece })
WritesStock old new piece (Err fault) =
    (0 < length piece) × (old.room ≡ length old.bytes) ×
    (new ≡ record old { failed = one_more old.failed })

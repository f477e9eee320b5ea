-- What the flush of a buffer has done.
use Rattle.std.specs.declared.io.buffered.BufWriter.{BufWriter}
use Rattle.std.specs.Io.Buffered.{writer_inner}
use Rattle.streams.specs.declared.writer_sinks.WriterSink.{WriterSink}
use Rattle.std.specs.Prelude.{◌≡◌, ℕ, List, Option, Result, Ok, Err}
use Rattle.cards.specs.Devices.{Device, Fails, StaysWhereTold}
use Rattle.cards.specs.declared.devices.DeviceFault.{DeviceFault}

-- what the buffer's writer has got, where it tells that
abbrev pub inner_contents : {W A : Type 0} → (W → Option (List ℕ)) → WriterSink (BufWriter W A) → Option (List ℕ)
inner_contents contents sink = contents (writer_inner sink.writer)

-- the buffer's writer has got everything that the sink took, where it tells that
pub record HandsOn (old new : Device) (behind : Option (List ℕ)) : Type 0 where
  pub all : StaysWhereTold old.bytes behind
  pub bytes : StaysWhereTold old.bytes new.bytes
  pub none_failed : new.failed ≡ old.failed

-- a flush that failed loses nothing
abbrev pub Flushes : Device → Device → Option (List ℕ) → Result Unit DeviceFault → Type 0
Flushes old new behind (Ok done) = HandsOn old new behind
Flushes old new behind (Err fault) = Fails old new

-- The streams of a run, as the devices that contracts speak of.
use Rattle.cards.specs.Devices.{Device}
use Rattle.streams.specs.declared.run_streams.Streams.{Streams}

-- what is read and what is written
pub record Devices : Type 0 where
  pub source : Device
  pub sink : Device

abbrev pub devices : Device → Device → Devices
devices source sink = record { source = source; sink = sink }

-- both, and what faults are told on
pub record RunDevices : Type 0 where
  pub both : Devices
  pub errors : Device

-- the streams of a run, if this is what the input, the output and the error output are
abbrev pub devices_of : {I O E : Type 0} → (I → Device) → (O → Device) → (E → Device) → Streams I O E → RunDevices
devices_of input output errors streams =
    record { both = devices (input streams.input) (output streams.output); errors = errors streams.errors }

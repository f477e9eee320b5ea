-- What callers need of putters, takers and relays that went through calls.
use Rattle.std.proofs.Common.{◌∙◌}
use Rattle.farm_relay.specs.declared.putters.Putter.{Putter}
use Rattle.farm_relay.specs.declared.takers.Taker.{Taker}
use Rattle.farm_relay.specs.declared.relays.Relay.{Relay}
use Rattle.farm_relay.specs.Relays.{IsPutterOf, IsTakerOf, PutsAtSame, TakesAtSame}

module _ {T : Type 0} (relay : Relay T) where
  -- a putter of the relay is one after its calls
  pub still_putter : (old new : Putter T) → PutsAtSame old new → IsPutterOf relay old → IsPutterOf relay new
  still_putter old new same is = record { channel = same.channel ∙ is.channel; takers = same.takers ∙ is.takers }

  -- and a taker
  pub still_taker : (old new : Taker T) → TakesAtSame old new → IsTakerOf relay old → IsTakerOf relay new
  still_taker old new same is = same ∙ is

-- What is known of putters and takers when they are made.
use Rattle.std.specs.Prelude.{◌≡◌, ℕ, false, []}
use Rattle.crossbeam_channel.specs.Ends.{sends_on, receives_on}
use Rattle.farm_relay.specs.declared.ends.Ends.{Ends}
use Rattle.farm_relay.specs.declared.putters.Putter.{Putter}
use Rattle.farm_relay.specs.declared.takers.Taker.{Taker}
use Rattle.farm_relay.specs.Relays.{put_by, marks_by, is_finished, taken_by, marks_of}

pub record IsNewPutter {T : Type 0} (ends : Ends T) (takers : ℕ) (putter : Putter T) : Type 0 where
  pub of : sends_on putter.sender ≡ sends_on ends.sender
  pub takers_are : putter.takers ≡ takers
  pub put : put_by putter ≡ []
  pub marks : marks_by putter ≡ 0
  pub unfinished : is_finished putter ≡ false

pub record IsNewTaker {T : Type 0} (ends : Ends T) (taker : Taker T) : Type 0 where
  pub of : receives_on taker.receiver ≡ sends_on ends.sender
  pub taken : taken_by taker ≡ []
  pub marks : marks_of taker ≡ 0

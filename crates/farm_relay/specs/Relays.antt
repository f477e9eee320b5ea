-- What a relay promises.
use Rattle.std.specs.Prelude.{◌≡◌, ℕ, ◌+◌, ◌≤◌, Bool, false, List, [], All, length, sum_by}
use Rattle.crossbeam_channel.specs.Claims.{view}
use Rattle.crossbeam_channel.specs.Ends.{sends_on, receives_on, ruled_capacity}
use Rattle.farm_relay.specs.declared.items.Item.{Item}
use Rattle.farm_relay.specs.declared.putters.Putter.{Putter}
use Rattle.farm_relay.specs.declared.takers.Taker.{Taker}
use Rattle.farm_relay.specs.declared.relays.Relay.{Relay}
use Rattle.farm_relay.specs.Items.{messages_in, marks_in}

module _ {T : Type 0} where
  -- what a putter put, in order
  abbrev pub items_put_by : Putter T → List (Item T)
  items_put_by putter = (view putter.pass).put

  abbrev pub put_by : Putter T → List T
  put_by putter = messages_in (items_put_by putter)

  abbrev pub marks_by : Putter T → ℕ
  marks_by putter = marks_in (items_put_by putter)

  abbrev pub is_finished : Putter T → Bool
  is_finished putter = putter.finished

  -- what a taker took, in order
  abbrev pub items_taken_by : Taker T → List (Item T)
  items_taken_by taker = (view taker.pass).taken

  abbrev pub taken_by : Taker T → List T
  taken_by taker = messages_in (items_taken_by taker)

  abbrev pub marks_of : Taker T → ℕ
  marks_of taker = marks_in (items_taken_by taker)

  -- whether `Relay::end` was called
  abbrev pub is_ended : Relay T → Bool
  is_ended relay = relay.ended

  -- how many end marks were put by `Relay::end`
  abbrev pub marks_at_end : Relay T → ℕ
  marks_at_end relay = marks_in (view relay.pass).put

  abbrev pub places_of : Relay T → ℕ
  places_of relay = ruled_capacity (sends_on relay.sender)

  -- how many putters and takers the relay was opened with
  abbrev pub putters_of : Relay T → ℕ
  putters_of relay = relay.putters

  abbrev pub takers_of : Relay T → ℕ
  takers_of relay = relay.takers

  -- the putter came with the relay, and knows how many takers there are
  pub record IsPutterOf (relay : Relay T) (putter : Putter T) : Type 0 where
    pub channel : sends_on putter.sender ≡ sends_on relay.sender
    pub takers : putter.takers ≡ takers_of relay

  -- the taker came with the relay
  abbrev pub IsTakerOf : Relay T → Taker T → Type 0
  IsTakerOf relay taker = receives_on taker.receiver ≡ sends_on relay.sender

  -- of whichever relay the putter was, it still is, and counts with the same others
  pub record PutsAtSame (old new : Putter T) : Type 0 where
    pub channel : sends_on new.sender ≡ sends_on old.sender
    pub takers : new.takers ≡ old.takers
    pub others : new.unfinished ≡ old.unfinished

  abbrev pub TakesAtSame : Taker T → Taker T → Type 0
  TakesAtSame old new = receives_on new.receiver ≡ receives_on old.receiver

  -- whoever was a putter or a taker of the relay still is, and it has the places and counts that it had
  pub record IsSameRelay (old new : Relay T) : Type 0 where
    pub channel : sends_on new.sender ≡ sends_on old.sender
    pub putters : putters_of new ≡ putters_of old
    pub takers : takers_of new ≡ takers_of old
    pub others : new.unfinished ≡ old.unfinished

  -- these are all putters and all takers of the relay, and no others
  pub record AreAllOf (relay : Relay T) (putters : List (Putter T)) (takers : List (Taker T)) : Type 0 where
    pub putters_are : All (IsPutterOf relay) putters
    pub takers_are : All (IsTakerOf relay) takers
    pub all_putters : length putters ≡ putters_of relay
    pub all_takers : length takers ≡ takers_of relay

  -- a relay of so many places, with so many putters and takers, who have put and taken nothing
  pub record IsOpened (places putter_count taker_count : ℕ) (relay : Relay T) (putters : List (Putter T))
      (takers : List (Taker T)) : Type 0 where
    pub places_are : places_of relay ≡ places
    pub putters_are : putters_of relay ≡ putter_count
    pub takers_are : takers_of relay ≡ taker_count
    pub ends : AreAllOf relay putters takers
    pub none_put : All (λ putter. put_by putter ≡ []) putters
    pub none_finished : All (λ putter. is_finished putter ≡ false) putters
    pub none_taken : All (λ taker. taken_by taker ≡ []) takers
    pub no_marks_put : All (λ putter. marks_by putter ≡ 0) putters
    pub no_marks_taken : All (λ taker. marks_of taker ≡ 0) takers
    pub not_ended : is_ended relay ≡ false
    pub no_marks_at_end : marks_at_end relay ≡ 0

  -- The messages put are those taken and those left, each as often as it was put: so it is where every weight of
  -- messages gives the same sum.
  abbrev pub IsNothingLost : List (Putter T) → List (Taker T) → List T → Type 0
  IsNothingLost putters takers left =
      (weight : T → ℕ)
      → sum_by (λ putter. sum_by weight (put_by putter)) putters
      ≡ sum_by (λ taker. sum_by weight (taken_by taker)) takers + sum_by weight left

  -- takers took no more end marks than putters and the relay's end put
  abbrev pub AreMarksPut : Relay T → List (Putter T) → List (Taker T) → Type 0
  AreMarksPut relay putters takers = sum_by marks_of takers ≤ sum_by marks_by putters + marks_at_end relay

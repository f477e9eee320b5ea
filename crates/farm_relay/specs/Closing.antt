-- What a pass knows once others were joined to it.
use Rattle.std.specs.Prelude.{◌≡◌, ℕ, ◌+◌, List, length, sum_by}
use Rattle.farm_relay.specs.declared.items.Item.{Item}
use Rattle.farm_relay.specs.declared.tallies.Tally.{Tally}
use Rattle.farm_relay.specs.declared.putters.Putter.{Putter}
use Rattle.farm_relay.specs.declared.takers.Taker.{Taker}
use Rattle.farm_relay.specs.Items.{messages_in}
use Rattle.farm_relay.specs.Relays.{items_put_by, items_taken_by}

module _ {T : Type 0} where
  pub record HasJoinedPutters (before : Tally T) (putters : List (Putter T)) (after : Tally T) : Type 0 where
    pub shares : after.shares ≡ before.shares + length putters
    pub put : (weight : Item T → ℕ) → sum_by weight after.put ≡ sum_by weight before.put
        + sum_by (λ putter. sum_by weight (items_put_by putter)) putters
    pub taken : (weight : Item T → ℕ) → sum_by weight after.taken ≡ sum_by weight before.taken

  pub record HasJoinedTakers (before : Tally T) (takers : List (Taker T)) (after : Tally T) : Type 0 where
    pub shares : after.shares ≡ before.shares + length takers
    pub put : (weight : Item T → ℕ) → sum_by weight after.put ≡ sum_by weight before.put
    pub taken : (weight : Item T → ℕ) → sum_by weight after.taken ≡ sum_by weight before.taken
        + sum_by (λ taker. sum_by weight (items_taken_by taker)) takers

  -- what a pass has put is what it has taken and what was left, of which these are the messages
  pub record IsLeft (v : Tally T) (messages : List T) : Type 0 where
    pub items : List (Item T)
    pub messages_are : messages_in items ≡ messages
    pub even : (weight : Item T → ℕ) → sum_by weight v.put ≡ sum_by weight v.taken + sum_by weight items

-- What steps at the channel tell their pass.
use Rattle.std.specs.Prelude.{◌≡◌, ℕ, ◌+◌, ◌≤◌, List}
use Rattle.farm_relay.specs.declared.items.Item.{Item}
use Rattle.farm_relay.specs.declared.tallies.Tally.{Tally}
use Rattle.farm_relay.specs.Items.{messages_in, marks_in}
use Rattle.farm_relay.specs.Tallies.{with_put, with_taken}

-- an item is put
abbrev pub Put : {T : Type 0} → Tally T → Item T → Tally T → Type 0
Put v item w = w ≡ with_put v item

-- an item is taken
abbrev pub Took : {T : Type 0} → Tally T → Item T → Tally T → Type 0
Took v item w = w ≡ with_taken v item

abbrev pub Silent : {T : Type 0} → Tally T → List (Item T) → Type 0
Silent v items = Unit {0}

-- at most so many end marks are put, and nothing else
pub record PutMarks {T : Type 0} (count : ℕ) (v w : Tally T) : Type 0 where
  pub shares : w.shares ≡ v.shares
  pub messages : messages_in w.put ≡ messages_in v.put
  pub marks : marks_in w.put ≤ marks_in v.put + count
  pub taken : w.taken ≡ v.taken

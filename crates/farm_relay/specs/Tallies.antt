-- What passes of a relay's channel know.
use Rattle.std.specs.Prelude.{ℕ, ◌+◌, ◌-◌, ◌^◌, List, [], ◌∷◌, ◌++◌}
use Rattle.farm_relay.specs.declared.items.Item.{Item}
use Rattle.farm_relay.specs.declared.tallies.Tally.{Tally}

-- all shares of a channel
abbrev pub all_shares : ℕ
all_shares = 2 ^ 66

abbrev pub tally : {T : Type 0} → ℕ → List (Item T) → List (Item T) → Tally T
tally shares put taken = record { shares = shares; put = put; taken = taken }

-- the pass with which a channel is opened
abbrev pub opening : {T : Type 0} → Tally T
opening = tally all_shares [] []

-- a pass of one share that has put and taken nothing
abbrev pub fresh : {T : Type 0} → Tally T
fresh = tally 1 [] []

-- a pass that was joined to another
abbrev pub spent : {T : Type 0} → Tally T
spent = tally 0 [] []

-- a pass that gave so many shares away
abbrev pub given_away : {T : Type 0} → ℕ → Tally T → Tally T
given_away count v = tally (v.shares - count) v.put v.taken

abbrev pub sharing : {T : Type 0} → Tally T → Tally T
sharing v = given_away 1 v

-- a pass that another was joined to
abbrev pub joined : {T : Type 0} → Tally T → Tally T → Tally T
joined v w = tally (v.shares + w.shares) (v.put ++ w.put) (v.taken ++ w.taken)

-- the tally after an item was put
abbrev pub with_put : {T : Type 0} → Tally T → Item T → Tally T
with_put v item = tally v.shares (v.put ++ item ∷ []) v.taken

-- the tally after an item was taken
abbrev pub with_taken : {T : Type 0} → Tally T → Item T → Tally T
with_taken v item = tally v.shares v.put (v.taken ++ item ∷ [])

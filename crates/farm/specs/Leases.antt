-- The leases that requests give up, and those under which they hand something in.
-- They are told apart by weights, as in lease_book.
use Rattle.std.specs.Prelude.{ℕ, ◌-◌, Bool, true, false, List, sum_by}
use Rattle.lease_book.specs.declared.events.Asked.{Asked}
use Rattle.lease_book.specs.declared.events.Asked.TheVariants.{Lease, Expire, GiveUp, HandIn}
use Rattle.lease_book.specs.declared.events.Reply.{Reply}
use Rattle.lease_book.specs.declared.events.Reply.TheVariants.{Given}
use Rattle.lease_book.specs.declared.events.Event.{Event}
use Rattle.lease_book.specs.Settling.{given_in}
use Rattle.farm.specs.declared.unclaimed.Unclaimed.{Unclaimed}

-- the lease that a request gives up
abbrev pub given_up_by : (ℕ → ℕ) → Asked → ℕ
given_up_by weight (Lease now) = 0
given_up_by weight (Expire now) = 0
given_up_by weight (GiveUp lease) = weight lease
given_up_by weight (HandIn lease entry evidence) = 0

-- the lease under which a request hands something in
abbrev pub handed_in_by : (ℕ → ℕ) → Asked → ℕ
handed_in_by weight (Lease now) = 0
handed_in_by weight (Expire now) = 0
handed_in_by weight (GiveUp lease) = 0
handed_in_by weight (HandIn lease entry evidence) = weight lease

-- all leases that events give up, and all under which they hand something in
abbrev pub all_given_up : (ℕ → ℕ) → List Event → ℕ
all_given_up weight events = sum_by (λ event. given_up_by weight event.asked) events

abbrev pub all_handed_in : (ℕ → ℕ) → List Event → ℕ
all_handed_in weight events = sum_by (λ event. handed_in_by weight event.asked) events

-- ---- counts of leases
-- each lease weighs one
abbrev pub one_each : ℕ → ℕ
one_each lease = 1

abbrev pub is_given_as : Asked → Reply → Bool
is_given_as (Lease now) (Given lease entry deadline) = true
is_given_as _ _ = false

abbrev pub is_handed_in_as : Asked → Bool
is_handed_in_as (HandIn lease entry evidence) = true
is_handed_in_as _ = false

-- whether an event gives a lease, and whether it hands something in
abbrev pub is_given : Event → Bool
is_given event = is_given_as event.asked event.reply

abbrev pub is_handed_in : Event → Bool
is_handed_in event = is_handed_in_as event.asked

-- the leases of events under which nothing was handed in, of which so many ran out of steps
abbrev pub unclaimed_with : ℕ → List Event → Unclaimed
unclaimed_with steps events =
    record { steps = steps; memory = given_in one_each events - all_handed_in one_each events - steps }

-- What becomes of the leases of a history. They are told apart by weights: whoever weighs leases by their numbers,
-- however they like.
use Rattle.std.specs.Prelude.{ℕ, ◌≤◌, Bool, false, List, sum_by, nat_eq}
use Rattle.std.specs.List.{list_any}
use Rattle.lease_book.specs.declared.events.Asked.{Asked}
use Rattle.lease_book.specs.declared.events.Asked.TheVariants.{Lease, Expire, GiveUp, HandIn}
use Rattle.lease_book.specs.declared.events.Reply.{Reply}
use Rattle.lease_book.specs.declared.events.Reply.TheVariants.{Given}
use Rattle.lease_book.specs.declared.events.Event.{Event}

-- the lease that a reply gives, if it gives one
abbrev pub weight_in : (ℕ → ℕ) → Reply → ℕ
weight_in weight (Given lease entry deadline) = weight lease
weight_in weight _ = 0

-- the lease that a request is given
abbrev pub given_by : (ℕ → ℕ) → Asked → Reply → ℕ
given_by weight (Lease now) reply = weight_in weight reply
given_by weight (Expire now) reply = 0
given_by weight (GiveUp lease) reply = 0
given_by weight (HandIn lease entry evidence) reply = 0

-- the lease that a request settles: it is given up, or handed in under
abbrev pub settled_by : (ℕ → ℕ) → Asked → ℕ
settled_by weight (Lease now) = 0
settled_by weight (Expire now) = 0
settled_by weight (GiveUp lease) = weight lease
settled_by weight (HandIn lease entry evidence) = weight lease

-- whether a request settles this lease, and whether one of some events does
abbrev pub settles : ℕ → Asked → Bool
settles lease (Lease now) = false
settles lease (Expire now) = false
settles lease (GiveUp other) = nat_eq other lease
settles lease (HandIn other entry evidence) = nat_eq other lease

abbrev pub is_settled : ℕ → List Event → Bool
is_settled lease events = list_any (λ event. settles lease event.asked) events

-- all leases that events give, and that they settle
abbrev pub given_in : (ℕ → ℕ) → List Event → ℕ
given_in weight events = sum_by (λ event. given_by weight event.asked event.reply) events

abbrev pub settled_in : (ℕ → ℕ) → List Event → ℕ
settled_in weight events = sum_by (λ event. settled_by weight event.asked) events

-- Each lease that was given was given up, or handed in under, or neither, and at most once; no other was: those settled
-- weigh no more than those given, whatever they weigh.
abbrev pub AreSettledOnce : List Event → Type 0
AreSettledOnce events = (weight : ℕ → ℕ) → settled_in weight events ≤ given_in weight events

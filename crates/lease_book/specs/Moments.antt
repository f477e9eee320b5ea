-- The moments that the requests of a history name are those that a clock may tell.
use Rattle.std.specs.Prelude.{ℕ, List, ⊤}
use Rattle.std.specs.List.{All}
use Rattle.lease_book.specs.declared.events.Asked.{Asked}
use Rattle.lease_book.specs.declared.events.Asked.TheVariants.{Lease, Expire, GiveUp, HandIn}
use Rattle.lease_book.specs.declared.events.Event.{Event}

-- what a clock may tell
abbrev pub MayTell : Type 1
MayTell = ℕ → Type 0

-- the moment of a request, where it names one
abbrev pub IsTimed : MayTell → Asked → Type 0
IsTimed may_tell (Lease now) = may_tell now
IsTimed may_tell (Expire now) = may_tell now
IsTimed may_tell (GiveUp lease) = ⊤
IsTimed may_tell (HandIn lease entry evidence) = ⊤

-- the moments of all requests
abbrev pub AreTimed : MayTell → List Event → Type 0
AreTimed may_tell events = All (λ event. IsTimed may_tell event.asked) events

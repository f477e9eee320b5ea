-- Receipts and the history that they are of.
use Rattle.std.specs.Prelude.{◌≡◌, ℕ, ◌+◌, ◌<◌, Bool, true, false, List, [], ◌∷◌, Some, nat_eq, slice_get}
use Rattle.lease_book.specs.declared.events.Event.{Event}
use Rattle.lease_desk.specs.declared.receipts.Receipt.{Receipt}

-- the receipt for an event in a place
abbrev pub receipt : ℕ → Event → Receipt
receipt place event = record { place = place; event = event }

abbrev pub keep : Bool → Receipt → List Receipt → List Receipt
keep true first rest = first ∷ rest
keep false first rest = rest

-- the receipts of a chair for events that begin in a place, by the list of who made each
abbrev pub receipts_from : ℕ → ℕ → List ℕ → List Event → List Receipt
receipts_from chair place (maker ∷ makers) (event ∷ events) =
    keep (nat_eq maker chair) (receipt place event) (receipts_from chair (place + 1) makers events)
receipts_from chair place _ _ = []

-- the receipt's event stands in the history at the receipt's place
abbrev pub Stands : List Event → Receipt → Type 0
Stands events told = slice_get events told.place ≡ Some told.event

-- the receipt is for an earlier event
abbrev pub IsBefore : ℕ → Receipt → Type 0
IsBefore place told = told.place < place

-- whether the receipt is for this place
abbrev pub is_for : ℕ → Receipt → Bool
is_for place told = nat_eq told.place place

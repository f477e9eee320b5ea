-- The rule of the desk's channel. The message is in the channel or in one view. Terms and chairs are those of the
-- opening, the chairs' numbers differ, and each chair's receipts are just the events that are listed under its number.
use Rattle.std.specs.Prelude.{◌≡◌, ℕ, ◌<◌, ◌≤◌, ◌⊎◌, Bool, true, false, List, [], ◌∷◌, length, Some, nat_eq}
use mathlib.Core.Option.{some}
use lib.ListN.{get_elem?}
use Rattle.lease_desk.specs.declared.messages.Message.{Message}
use Rattle.lease_desk.specs.declared.views.SeenMessage.{SeenMessage}
use Rattle.lease_desk.specs.declared.views.Custody.{Custody}
use Rattle.lease_desk.specs.declared.views.Custody.TheVariants.{Empty, Holds}
use Rattle.lease_desk.specs.declared.views.View.{View}
use Rattle.lease_desk.specs.Views.{page_of, receipts_on, unopened}

-- where the message is: in the channel, or with the token of this number, for good or not
pub data Where : Type 0 where
  within : Where
  out : (final : Bool) → (token : ℕ) → Where

-- each of these numbers is below one
abbrev pub AreBelow : ℕ → List ℕ → Type 0
AreBelow bound [] = Unit {0}
AreBelow bound (number ∷ numbers) = (number < bound) × AreBelow bound numbers

-- the channel holds the message, or nothing where the message is out
abbrev pub Lies : Where → List Message → SeenMessage → Type 0
Lies within items page = (message : Message) × (items ≡ message ∷ []) × (page_of message ≡ page)
Lies (out final holder) items page = items ≡ []

abbrev pub custody_if : Bool → Bool → SeenMessage → Custody
custody_if true final page = Holds final page
custody_if false final page = Empty

-- what a token has in hand
abbrev pub custody_at : Where → ℕ → SeenMessage → Custody
custody_at within token page = Empty
custody_at (out final holder) token page = custody_if (nat_eq holder token) final page

-- the holder is one of so many passes
abbrev pub IsAmong : Where → ℕ → Type 0
IsAmong within count = Unit {0}
IsAmong (out final holder) count = holder < count

abbrev pub IsFinal : Where → Type 0
IsFinal within = ⊥
IsFinal (out true holder) = Unit {0}
IsFinal (out false holder) = ⊥

-- a desk that was opened so has come to this page
pub record IsOf (opening page : SeenMessage) : Type 0 where
  pub terms : opening.book.terms ≡ page.book.terms
  pub before : opening.before ≡ page.before
  pub chairs : opening.chairs ≡ page.chairs

-- what one token knows is so
pub record Fits (page : SeenMessage) (at : Where) (seats : ℕ → ℕ) (usher made token : ℕ) (v : View) : Type 0 where
  pub in_custody : v.custody ≡ custody_at at token page
  pub opened : (opening : SeenMessage) → v.opening ≡ Some opening → IsOf opening page
  pub chair : (k : ℕ) → v.number ≡ Some k → (seats k ≡ token) × (k < made) × (v.receipts ≡ receipts_on page k)
  pub ushers : (n : ℕ) → v.made ≡ Some n → (token ≡ usher) × (n ≡ made)
  pub told : (last : SeenMessage) → v.told ≡ Some last → (last ≡ page) × IsFinal at

-- an open desk
pub record IsOpen (items : List Message) (views : List View) : Type 0 where
  pub page : SeenMessage
  pub at : Where
  pub seats : ℕ → ℕ
  pub usher : ℕ
  pub made : ℕ
  pub lies : Lies at items page
  pub among : IsAmong at (length views)
  pub even : length page.makers ≡ length page.book.events
  pub listed : AreBelow made page.makers
  pub bound : made ≤ page.chairs
  pub fits : (token : ℕ) (v : View) → get_elem? views token ≡ some v → Fits page at seats usher made token v

-- the desk is open, or nothing was sent yet
abbrev pub IsKept : List Message → List View → Type 0
IsKept items views = ((items ≡ []) × (views ≡ unopened ∷ [])) ⊎ IsOpen items views

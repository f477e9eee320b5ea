-- What one step at the channel tells its token.
use Rattle.std.specs.Prelude.{◌≡◌, ℕ, ◌+◌, ◌⊎◌, Bool, false, List, [], length, Option, None, Some}
use Rattle.lease_book.specs.declared.events.Event.{Event}
use Rattle.lease_desk.specs.declared.messages.Message.{Message}
use Rattle.lease_desk.specs.declared.receipts.Receipt.{Receipt}
use Rattle.lease_desk.specs.declared.views.SeenMessage.{SeenMessage}
use Rattle.lease_desk.specs.declared.views.View.{View}
use Rattle.lease_desk.specs.declared.views.Custody.{Custody}
use Rattle.lease_desk.specs.declared.views.Custody.TheVariants.{Before, Empty, Holds}
use Rattle.lease_desk.specs.Views.{page_of, page_with, receipts_on, usher, holding}
use Rattle.lease_desk.specs.Rule.{AreBelow, IsOf}

-- the first send: the token makes chairs from then on
abbrev pub Opens : View → Message → View → Type 0
Opens v message w = w ≡ usher (Some (page_of message)) 0

-- what a token that takes the message learns
pub record Learned (v : View) (page : SeenMessage) : Type 0 where
  pub even : length page.makers ≡ length page.book.events
  pub opened : (opening : SeenMessage) → v.opening ≡ Some opening → IsOf opening page
  pub chair : (k : ℕ) → v.number ≡ Some k → v.receipts ≡ receipts_on page k
  pub listed : AreBelow page.chairs page.makers

-- the message is taken, for good or not
pub record Took (final : Bool) (v : View) (message : Message) (w : View) : Type 0 where
  pub holds : w ≡ holding final (page_of message) v
  pub learned : Learned v (page_of message)

-- What may be given back: the page in hand, or that page with one more event, under the giver's number.
pub record MayGive (v : View) (page : SeenMessage) : Type 0 where
  pub held : SeenMessage
  pub number : ℕ
  pub has : v.custody ≡ Holds false held
  pub number_is : v.number ≡ Some number
  pub no_usher : v.made ≡ None
  pub next : (page ≡ held) ⊎ ((event : Event) × (page ≡ page_with held number event))

-- the receipts on a page of the chair of this number; those before where there is no chair
abbrev pub receipts_told : Option ℕ → SeenMessage → List Receipt → List Receipt
receipts_told None page before = before
receipts_told (Some k) page before = receipts_on page k

-- the message is given back
abbrev pub gave : View → SeenMessage → View
gave v page =
    record {
      number = v.number;
      receipts = receipts_told v.number page v.receipts;
      made = v.made;
      opening = v.opening;
      custody = Empty;
      told = v.told;
    }

abbrev pub Gave : View → Message → View → Type 0
Gave v message w = w ≡ gave v (page_of message)

-- one more chair is made
abbrev pub next_number : Option ℕ → Option ℕ
next_number None = None
next_number (Some made) = Some (made + 1)

abbrev pub ushering : View → View
ushering v = record {
  number = v.number;
  receipts = v.receipts;
  made = next_number v.made;
  opening = v.opening;
  custody = v.custody;
  told = v.told;
}

abbrev pub seated : View → View
seated v = record { number = v.made; receipts = []; made = None; opening = v.opening; custody = Empty; told = None }

-- the desk has so many chairs
abbrev pub HasChairs : Option SeenMessage → ℕ → Type 0
HasChairs None chairs = ⊥
HasChairs (Some opening) chairs = opening.chairs ≡ chairs

-- a token that has only seen the desk open
abbrev pub spared : View → View
spared v = record { number = None; receipts = []; made = None; opening = v.opening; custody = Empty; told = None }

-- a token that tells the page in hand
abbrev pub page_in : Custody → Option SeenMessage
page_in Before = None
page_in Empty = None
page_in (Holds final page) = Some page

abbrev pub told_of : View → View
told_of v = record { number = None; receipts = []; made = None; opening = None; custody = Empty; told = page_in v.custody }

-- a token that was told what another tells
abbrev pub heard : View → View → View
heard v w = record {
  number = v.number;
  receipts = v.receipts;
  made = v.made;
  opening = v.opening;
  custody = v.custody;
  told = w.told;
}

-- a chair's receipts are those on the last page, where it was told the page
abbrev pub Compared : View → List Message → Type 0
Compared v items =
    (k : ℕ) (last : SeenMessage) → v.number ≡ Some k → v.told ≡ Some last → v.receipts ≡ receipts_on last k

abbrev pub Silent : View → List Message → Type 0
Silent v items = Unit {0}

-- What is known of chairs while the desk is closed.
use Rattle.std.specs.Prelude.{◌≡◌, List, All, Option, Some, length, map}
use Rattle.crossbeam_channel.specs.Claims.{view, IsSeatAt}
use Rattle.crossbeam_channel.specs.Ends.{sends_on}
use Rattle.lease_book.specs.Books.{Ledger}
use Rattle.lease_desk.specs.declared.views.SeenMessage.{SeenMessage}
use Rattle.lease_desk.specs.declared.views.Custody.TheVariants.{Empty}
use Rattle.lease_desk.specs.declared.ends.DeskEnds.{DeskEnds}
use Rattle.lease_desk.specs.declared.chairs.Chair.{Chair}
use Rattle.lease_desk.specs.Views.{receipts_on, history_on}
use Rattle.lease_desk.specs.Rule.{AreBelow, IsOf}
use Rattle.lease_desk.specs.Desks.{IsChairAt, number_of, receipts_in, shown_of}

-- the chairs are of one channel and one opening
pub record AreSeatedAt (ends : DeskEnds) (chairs : List Chair) : Type 0 where
  pub opening : Option SeenMessage
  pub each : All (IsChairAt ends opening) chairs

-- the chair's token is one of this channel, has nothing in hand, and knows what the chair keeps
pub record IsSitting (ends : DeskEnds) (chair : Chair) : Type 0 where
  pub seat : IsSeatAt (sends_on ends.sender) chair.token
  pub custody : (view chair.token).custody ≡ Empty
  pub number : (view chair.token).number ≡ Some chair.number
  pub receipts : (view chair.token).receipts ≡ chair.receipts.items

-- the chair's receipts are those on the last page
abbrev pub IsCompared : SeenMessage → Chair → Type 0
IsCompared last chair = receipts_in chair ≡ receipts_on last (number_of chair)

-- the last page, with which all receipts were compared
pub record IsCollected (opening : Option SeenMessage) (chairs closed : List Chair) (book : Ledger) : Type 0 where
  pub page : SeenMessage
  pub terms_are : book.terms ≡ page.book.terms
  pub events_are : book.events ≡ history_on page
  pub of : (first : SeenMessage) → opening ≡ Some first → IsOf first page
  pub even : length page.makers ≡ length page.book.events
  pub listed : AreBelow page.chairs page.makers
  pub same : map shown_of closed ≡ map shown_of chairs
  pub compared : All (IsCompared page) closed

-- The facts about the chair of a thread.
use Rattle.std.specs.Prelude.{◌≡◌, [], All}
use Rattle.lease_desk.specs.declared.chairs.Chair.{Chair}
use Rattle.lease_desk.specs.declared.desk.Desk.{Desk}
use Rattle.lease_desk.specs.Desks.{IsChairOf, number_of, receipts_in}
use Rattle.farm.specs.declared.crews.Crew.{Crew}
use Rattle.lease_book.specs.Moments.{MayTell, IsTimed}

-- the chair came with the desk, and has made no call
pub record IsNew (desk : Desk) (chair : Chair) : Type 0 where
  pub chair_is : IsChairOf desk chair
  pub none_yet : receipts_in chair ≡ []

-- the chair came with the desk, and its requests name moments that the clock may tell
pub record IsWorker (may_tell : MayTell) (desk : Desk) (chair : Chair) : Type 0 where
  pub chair_is : IsChairOf desk chair
  pub timed : All (λ receipt. IsTimed may_tell receipt.event.asked) (receipts_in chair)

module _ {S G C : Type 0} (may_tell : C → MayTell) (crew : Crew S G C) where
  -- the chair belongs to the crew's desk, with the crew's clock
  abbrev pub IsOnDuty : Chair → Type 0
  IsOnDuty chair = IsWorker (may_tell crew.means.clock.now) crew.desk.now chair

  -- the chair stays on duty, under its number
  pub record StaysOnDuty (old new : Chair) : Type 0 where
    pub duty : IsOnDuty new
    pub number : number_of new ≡ number_of old

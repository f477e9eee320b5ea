-- The requests of a worker at the desk. Each adds one receipt to its chair.
use Rattle.std.specs.Prelude.{◌≡◌, ℕ, Bool, not, List, [], ◌∷◌, ◌++◌, Option, None, Some, All, Contains, nat_eq}
use Rattle.lease_book.specs.declared.events.Asked.{Asked}
use Rattle.lease_book.specs.declared.events.Asked.TheVariants.{Lease, Expire, GiveUp}
use Rattle.lease_book.specs.declared.events.Reply.{Reply}
use Rattle.lease_book.specs.declared.events.Reply.TheVariants.{Given, Nothing, Freed}
use Rattle.lease_book.specs.Histories.{Terms}
use Rattle.lease_desk.specs.declared.receipts.Receipt.{Receipt}
use Rattle.lease_desk.specs.HandIns.{IsHandedIn}
use Rattle.farm.specs.declared.tasks.Task.{Task}
use Rattle.farm.specs.declared.tasks.CheckedClaim.{CheckedClaim}

-- one request was made, and had this reply
abbrev pub Hears : Asked → Reply → List Receipt → List Receipt → Type 0
Hears asked reply before after =
    (place : ℕ) × (after ≡ before ++ record { place = place; event = record { asked = asked; reply = reply } } ∷ [])

-- a lease was asked for: the task is the lease that was given, or there is none if no entry was open
abbrev pub IsNextTask : List Receipt → List Receipt → Option Task → Type 0
IsNextTask before after None = (now : ℕ) × Hears (Lease now) Nothing before after
IsNextTask before after (Some task) =
    (now : ℕ) × (deadline : ℕ) × Hears (Lease now) (Given task.lease task.entry deadline) before after

-- one of these receipts is for this lease, which was given
abbrev pub WasGiven : List Receipt → Task → Type 0
WasGiven receipts task =
    (place : ℕ) × (now : ℕ) × (deadline : ℕ)
    × Contains receipts
    (record { place = place; event = record { asked = Lease now; reply = Given task.lease task.entry deadline } })

-- these receipts show each of the tasks as a lease that was given
pub record AreGiven (receipts : List Receipt) (tasks : List Task) : Type 0 where
  pub each : All (WasGiven receipts) tasks

-- the receipts begin with the earlier ones
abbrev pub Continues : List Receipt → List Receipt → Type 0
Continues before after = (later : List Receipt) × (after ≡ before ++ later)

-- an expiry was asked for, and the answer is whether it freed a lease
abbrev pub FreesLeases : List Receipt → List Receipt → Bool → Type 0
FreesLeases before after freed =
    (now : ℕ) × (count : ℕ) × (freed ≡ not (nat_eq count 0)) × Hears (Expire now) (Freed count) before after

-- a lease was given up
abbrev pub GivesUp : ℕ → List Receipt → List Receipt → Type 0
GivesUp lease before after = (reply : Reply) × Hears (GiveUp lease) reply before after

-- a claim was handed in
abbrev pub HandsIn : Terms → CheckedClaim → List Receipt → List Receipt → Type 0
HandsIn terms claim before after =
    (told : Receipt) × IsHandedIn terms claim.task.lease claim.task.entry claim.claimed before after told

-- claims were handed in, one after another, and no other request was made
abbrev pub AreHandedIn : Terms → List CheckedClaim → List Receipt → List Receipt → Type 0
AreHandedIn terms [] before after = after ≡ before
AreHandedIn terms (claim ∷ claims) before after =
    (between : List Receipt) × HandsIn terms claim before between × AreHandedIn terms claims between after

-- the last two requests: no entry was open, and then no lease had run out
pub record EndsIdle (receipts : List Receipt) : Type 0 where
  pub before : List Receipt
  pub between : List Receipt
  pub asked : ℕ
  pub later : ℕ
  pub nothing : Hears (Lease asked) Nothing before between
  pub none_freed : Hears (Expire later) (Freed 0) between receipts

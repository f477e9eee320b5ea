-- The threads of a round, and the outcome for their posts and chairs.
use Rattle.std.specs.Prelude.{◌≡◌, ℕ, ◌≤◌, List, [], All, Contains, map, sum_by}
use Rattle.lease_desk.specs.declared.chairs.Chair.{Chair}
use Rattle.lease_desk.specs.declared.desk.Desk.{Desk}
use Rattle.lease_desk.specs.Desks.{number_of, receipts_in}
use Rattle.farm_threads.specs.Beside.{AreBeside}
use Rattle.farm_threads.specs.Posts.{AreThreadsOf}
use Rattle.farm.specs.declared.crews.Crew.{Crew}
use Rattle.farm.specs.declared.posts.LenderPost.{LenderPost}
use Rattle.farm.specs.declared.posts.SolverPost.{SolverPost}
use Rattle.farm.specs.declared.posts.CheckerPost.{CheckerPost}
use Rattle.farm.specs.declared.posts.ClerkPost.{ClerkPost}
use Rattle.farm.specs.declared.posts.Posts.{Posts}
use Rattle.farm.specs.declared.relays.RelayEnds.{RelayEnds}
use Rattle.farm.specs.declared.relays.Relays.{Relays}
use Rattle.farm.specs.declared.settings.Settings.{Settings}
use Rattle.farm.specs.declared.started.Started.{Started}
use Rattle.lease_book.specs.Moments.{MayTell}
use Rattle.farm.specs.Working.{IsOnDuty}
use Rattle.farm.specs.Requests.{WasGiven, EndsIdle}
use Rattle.certificate_graph.specs.Solvers.{MayFind}
use Rattle.farm.specs.Asks.{Ask, IsAsked, all_answered, all_vain, all_steps, as_counted}
use Rattle.farm.specs.Flows.{given, settled, given_up, handed_in}
use Rattle.farm.specs.Posts.{IsNewLender, IsNewSolver, IsNewChecker, IsNewClerk, AreManned}
use Rattle.farm.specs.Relaying.{AreOpened}

-- the work may begin at these posts
pub record MayBegin (solves : SolverPost → Type 0) (checks : CheckerPost → Type 0) (settles : ClerkPost → Type 0)
    (posts : Posts) : Type 0 where
  pub solvers : All solves posts.solvers.items
  pub checkers : All checks posts.checkers.items
  pub clerks : All settles posts.clerks.items

-- posts at which nobody has worked
abbrev pub AreNewPosts : Desk → Posts → Type 0
AreNewPosts desk posts = MayBegin (IsNewSolver desk) IsNewChecker (IsNewClerk desk) posts

-- posts at these chairs, with all ends of new relays, at which nobody has worked
pub record AreOpenedPosts (settings : Settings) (desk : Desk) (chairs : List Chair) (relays : Relays)
    (lender : LenderPost) (posts : Posts)
    : Type 0 where
  pub ends : RelayEnds
  pub opened : AreOpened settings relays ends
  pub manned : AreManned chairs ends lender posts
  pub new_lender : IsNewLender desk lender
  pub new : AreNewPosts desk posts

module _ {A B D : Type 0} where
  -- no thread was started yet
  pub record IsEmpty (started : Started A B D) : Type 0 where
    pub no_solvers : started.solvers.items ≡ []
    pub no_checkers : started.checkers.items ≡ []
    pub no_clerks : started.clerks.items ≡ []

  -- threads that do this work at these posts
  pub record AreStarted (solver : A) (checker : B) (clerk : D) (posts : Posts) (started : Started A B D) : Type 0 where
    pub solvers : AreThreadsOf solver posts.solvers.items started.solvers.items
    pub checkers : AreThreadsOf checker posts.checkers.items started.checkers.items
    pub clerks : AreThreadsOf clerk posts.clerks.items started.clerks.items

-- each post as the work at it has left it
pub record HaveEnded (solves : SolverPost → SolverPost → Type 0) (checks : CheckerPost → CheckerPost → Type 0)
    (settles : ClerkPost → ClerkPost → Type 0)
    (before after : Posts) : Type 0 where
  pub solvers : AreBeside solves before.solvers.items after.solvers.items
  pub checkers : AreBeside checks before.checkers.items after.checkers.items
  pub clerks : AreBeside settles before.clerks.items after.clerks.items

module _ {S G C : Type 0} (may_tell : C → MayTell) (may_find : S → MayFind) (crew : Crew S G C) where
  -- The chairs that come back are the same ones, at the same desk. One of them saw that no entry was open and no lease
  -- had run out. Together they settled leases that they were given. The solver was called for leases that one of them
  -- was given: the leases given up are those of calls in vain, and those under which something was handed in are of
  -- calls whose answers have a claim for them. Those that ran out of steps were counted.
  pub record HaveWorked (before after : List Chair) (steps : ℕ) : Type 0 where
    pub duty : All (IsOnDuty may_tell crew) after
    pub numbers : map number_of after ≡ map number_of before
    pub idle : (chair : Chair) × Contains after chair × EndsIdle (receipts_in chair)
    pub leases :
        (weight : ℕ → ℕ) → sum_by (λ chair. settled weight (receipts_in chair)) after
        ≤ sum_by (λ chair. given weight (receipts_in chair)) after
    pub asks : List Ask
    pub asked : All (IsAsked (may_find crew.means.solver.now) crew.deals.now crew.settings.budget) asks
    pub lender : Chair
    pub is_one : Contains after lender
    pub given : All (λ ask. All (WasGiven (receipts_in lender)) ask.tasks) asks
    pub gave_up :
        (weight : ℕ → ℕ) → sum_by (λ chair. given_up weight (receipts_in chair)) after ≡ all_vain weight asks
    pub handed_in :
        (weight : ℕ → ℕ) → sum_by (λ chair. handed_in weight (receipts_in chair)) after ≤ all_answered weight asks
    pub counted : steps ≡ as_counted (all_steps asks)

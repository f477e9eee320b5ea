-- The facts about a post before and after the work.
use Rattle.std.specs.Prelude.{◌≡◌, ℕ, ◌+◌, ◌⊎◌, true, List, [], ◌∷◌, ◌++◌, All, map, length, sum_by}
use Rattle.lease_desk.specs.declared.chairs.Chair.{Chair}
use Rattle.lease_desk.specs.declared.desk.Desk.{Desk}
use Rattle.lease_desk.specs.Desks.{receipts_in, terms_of}
use Rattle.farm_relay.specs.Relays.{PutsAtSame, TakesAtSame, put_by, taken_by, marks_of, is_finished}
use Rattle.farm.specs.declared.crews.Crew.{Crew}
use Rattle.farm.specs.declared.tasks.Task.{Task}
use Rattle.farm.specs.declared.tasks.CheckedClaim.{CheckedClaim}
use Rattle.farm.specs.declared.posts.LenderPost.{LenderPost}
use Rattle.farm.specs.declared.posts.SolverPost.{SolverPost}
use Rattle.farm.specs.declared.posts.CheckerPost.{CheckerPost}
use Rattle.farm.specs.declared.posts.ClerkPost.{ClerkPost}
use Rattle.farm.specs.declared.posts.Posts.{Posts}
use Rattle.farm.specs.declared.relays.RelayEnds.{RelayEnds}
use Rattle.lease_book.specs.Histories.{Terms}
use Rattle.lease_book.specs.Moments.{MayTell}
use Rattle.certificate_graph.specs.Solvers.{MayFind}
use Rattle.farm.specs.Working.{IsNew, StaysOnDuty}
use Rattle.farm.specs.Requests.{AreHandedIn, EndsIdle}
use Rattle.farm.specs.declared.tasks.FoundBundle.{FoundBundle}
use Rattle.farm.specs.Findings.{IsLentUnder, IsMessageOf, IsFoundBy, IsClaimUnder}
use Rattle.farm.specs.Asks.{Ask, IsAsked, claimed_in, vain_in, steps_in}
use Rattle.farm.specs.Asks.{all_answered, all_vain, all_steps, as_counted}
use Rattle.farm.specs.Flows.{LendsAll, GaveUp, ClaimsOwn, SettlesClaims, of_tasks, all_found}

-- posts at which nobody has worked
pub record IsNewLender (desk : Desk) (post : LenderPost) : Type 0 where
  pub chair : IsNew desk post.chair
  pub none_put : put_by post.groups ≡ []

pub record IsNewSolver (desk : Desk) (post : SolverPost) : Type 0 where
  pub chair : IsNew desk post.chair
  pub none_taken : taken_by post.groups ≡ []
  pub none_put : put_by post.found ≡ []
  pub no_steps : post.steps ≡ 0

pub record IsNewChecker (post : CheckerPost) : Type 0 where
  pub none_taken : taken_by post.found ≡ []
  pub none_put : put_by post.claims ≡ []

pub record IsNewClerk (desk : Desk) (post : ClerkPost) : Type 0 where
  pub chair : IsNew desk post.chair
  pub none_taken : taken_by post.claims ≡ []

-- each group that the lender put is of leases that it was given
pub record LendsOwn (post : LenderPost) : Type 0 where
  pub each : All (IsLentUnder (receipts_in post.chair)) (put_by post.groups)

-- What a solver does after a call: it gives up the leases in vain, and puts the others with the answer, if there are
-- any. It counts the leases that ran out of steps.
pub record Answers (ask : Ask) (old new : SolverPost) : Type 0 where
  pub puts :
      ((claimed_in ask ≡ []) × (put_by new.found ≡ put_by old.found))
      ⊎ ((message : FoundBundle) × IsMessageOf ask message × (put_by new.found ≡ put_by old.found ++ message ∷ []))
  pub gives_up :
      (weight : ℕ → ℕ)
      → GaveUp weight (receipts_in old.chair) (receipts_in new.chair) (of_tasks weight (vain_in ask))
  pub steps : as_counted new.steps ≡ as_counted (old.steps + steps_in ask)

module _ {S G C : Type 0} (may_find : S → MayFind) (crew : Crew S G C) where
  -- the solver was called once for these leases, and its answer was acted on
  pub record AsksFor (group : List Task) (old new : SolverPost) : Type 0 where
    pub ask : Ask
    pub tasks_are : ask.tasks ≡ group
    pub asked : IsAsked (may_find crew.means.solver.now) crew.deals.now crew.settings.budget ask
    pub answers : Answers ask old new

  -- The solver was called once for each group that was taken. The messages put are of its answers, and all leases with a
  -- claim are in them. The leases in vain were given up, no others, and nothing else was asked for at the desk. Those
  -- that ran out of steps were counted.
  pub record AsksTaken (post : SolverPost) : Type 0 where
    pub asks : List Ask
    pub asked : All (IsAsked (may_find crew.means.solver.now) crew.deals.now crew.settings.budget) asks
    pub groups : map (λ ask. ask.tasks) asks ≡ map (λ group. group.tasks.items) (taken_by post.groups)
    pub finds : All (IsFoundBy asks) (put_by post.found)
    pub found : (weight : ℕ → ℕ) → all_found weight (put_by post.found) ≡ all_answered weight asks
    pub gave_up : (weight : ℕ → ℕ) → GaveUp weight [] (receipts_in post.chair) (all_vain weight asks)
    pub steps : as_counted post.steps ≡ as_counted (all_steps asks)

-- what solvers counted, as far as a count goes
abbrev pub steps_at : List SolverPost → ℕ
steps_at solvers = as_counted (sum_by (λ post. post.steps) solvers)

-- each claim that a checker put is for a message that it took
pub record ClaimsTaken (post : CheckerPost) : Type 0 where
  pub each : All (IsClaimUnder (taken_by post.found)) (put_by post.claims)

-- the claims that a clerk took since then were handed in, in their order, and it made no other request
pub record HandsInTaken (terms : Terms) (old new : ClerkPost) : Type 0 where
  pub claims : List CheckedClaim
  pub taken : taken_by new.claims ≡ taken_by old.claims ++ claims
  pub handed_in : AreHandedIn terms claims (receipts_in old.chair) (receipts_in new.chair)

-- the lender has finished putting groups, even if its work failed
pub record LeavesLender (old new : LenderPost) : Type 0 where
  pub same : PutsAtSame old.groups new.groups
  pub finished : is_finished new.groups ≡ true

-- a solver took an end mark, and has finished putting messages, even if its work failed
pub record LeavesSolver (old new : SolverPost) : Type 0 where
  pub ended : marks_of new.groups ≡ marks_of old.groups + 1
  pub same : PutsAtSame old.found new.found
  pub finished : is_finished new.found ≡ true

-- a checker took an end mark, and has finished putting claims
pub record LeavesChecker (old new : CheckerPost) : Type 0 where
  pub ended : marks_of new.found ≡ marks_of old.found + 1
  pub same : PutsAtSame old.claims new.claims
  pub finished : is_finished new.claims ≡ true

-- a clerk took an end mark, even if its work failed
abbrev pub LeavesClerk : ClerkPost → ClerkPost → Type 0
LeavesClerk old new = marks_of new.claims ≡ marks_of old.claims + 1

module _ {S G C : Type 0} (may_tell : C → MayTell) (crew : Crew S G C) where
  -- the post has the same chair, and the same ends of the same relays
  pub record StaysLender (old new : LenderPost) : Type 0 where
    pub chair : StaysOnDuty may_tell crew old.chair new.chair
    pub groups : PutsAtSame old.groups new.groups

  pub record StaysSolver (old new : SolverPost) : Type 0 where
    pub chair : StaysOnDuty may_tell crew old.chair new.chair
    pub groups : TakesAtSame old.groups new.groups
    pub found : PutsAtSame old.found new.found

  pub record StaysClerk (old new : ClerkPost) : Type 0 where
    pub chair : StaysOnDuty may_tell crew old.chair new.chair
    pub claims : TakesAtSame old.claims new.claims

  -- The lender works until no entry is open and no lease has run out. It puts the leases that it is given, and settles
  -- none.
  pub record HasLent (old new : LenderPost) : Type 0 where
    pub stays : StaysLender old new
    pub idle : EndsIdle (receipts_in new.chair)
    pub leases : (weight : ℕ → ℕ) → LendsAll weight new
    pub lends : LendsOwn new

  -- a clerk works until it takes an end mark, and hands in the claims that it takes, in their order
  pub record HasSettled (old new : ClerkPost) : Type 0 where
    pub stays : StaysClerk old new
    pub ended : marks_of new.claims ≡ marks_of old.claims + 1
    pub leases : (weight : ℕ → ℕ) → SettlesClaims weight new
    pub hands_in : HandsInTaken (terms_of crew.desk.now) old new

module _ {S G C : Type 0} (may_tell : C → MayTell) (may_find : S → MayFind) (crew : Crew S G C) where
  -- a solver works until it takes an end mark, and asks for each group that it takes
  pub record HasSolved (old new : SolverPost) : Type 0 where
    pub stays : StaysSolver may_tell crew old new
    pub ended : marks_of new.groups ≡ marks_of old.groups + 1
    pub asks : AsksTaken may_find crew new

-- the post has the same ends of the same relays
pub record StaysChecker (old new : CheckerPost) : Type 0 where
  pub found : TakesAtSame old.found new.found
  pub claims : PutsAtSame old.claims new.claims

-- a checker works until it takes an end mark, and puts claims for leases of the messages that it takes
pub record HasChecked (old new : CheckerPost) : Type 0 where
  pub stays : StaysChecker old new
  pub ended : marks_of new.found ≡ marks_of old.found + 1
  pub leases : (weight : ℕ → ℕ) → ClaimsOwn weight new
  pub claims_taken : ClaimsTaken new

-- there is a chair for the lender, for each solver and for each clerk, one end for the lender, and both ends for each
-- solver and each checker
pub record CanBeManned (chairs : List Chair) (ends : RelayEnds) : Type 0 where
  pub chairs_are : length chairs ≡ length ends.finds.items + length ends.heard.items + 1
  pub lent_are : length ends.lent.items ≡ 1
  pub groups_are : length ends.finds.items ≡ length ends.groups.items
  pub ends_are : length ends.found.items ≡ length ends.claims.items

-- the chairs and ends are those at the posts, the lender's chair first and then the solvers'
pub record AreManned (chairs : List Chair) (ends : RelayEnds) (lender : LenderPost) (posts : Posts) : Type 0 where
  pub chairs_are :
      chairs
      ≡ lender.chair ∷ map (λ post. post.chair) posts.solvers.items ++ map (λ post. post.chair) posts.clerks.items
  pub lent : ends.lent.items ≡ lender.groups ∷ []
  pub groups : ends.groups.items ≡ map (λ post. post.groups) posts.solvers.items
  pub finds : ends.finds.items ≡ map (λ post. post.found) posts.solvers.items
  pub found : ends.found.items ≡ map (λ post. post.found) posts.checkers.items
  pub claims : ends.claims.items ≡ map (λ post. post.claims) posts.checkers.items
  pub heard : ends.heard.items ≡ map (λ post. post.claims) posts.clerks.items

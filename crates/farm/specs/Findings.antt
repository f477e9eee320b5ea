-- The lender's groups for solvers, the answers of the solver, and the claims of checkers to clerks.
use Rattle.std.specs.Prelude.{◌≡◌, ◌⊎◌, List, [], ◌∷◌, ◌++◌, Some, Contains}
use Rattle.certificate_graph.specs.declared.bundles.Bundle.{Bundle}
use Rattle.certificate_graph.specs.declared.bundles.Claim.{Claim}
use Rattle.certificate_graph.specs.Bundles.{claim_for}
use Rattle.farm.specs.declared.tasks.Task.{Task}
use Rattle.farm.specs.declared.tasks.Group.{Group}
use Rattle.farm.specs.declared.tasks.FoundBundle.{FoundBundle}
use Rattle.farm.specs.declared.tasks.CheckedClaim.{CheckedClaim}
use Rattle.checker.specs.declared.pairs.CheckedPair.{CheckedPair}
use Rattle.checker.specs.Pairs.{IsPairOf, IsClaimedOf}
use Rattle.lease_desk.specs.declared.receipts.Receipt.{Receipt}
use Rattle.farm.specs.Groups.{group_of}
use Rattle.farm.specs.Asks.{Ask, claimed_in, found_in}
use Rattle.farm.specs.Requests.{AreGiven}

-- a group of these leases was put; without a lease none was
abbrev pub PutsTasks : List Task → List Group → List Group → Type 0
PutsTasks tasks before after =
    ((tasks ≡ []) × (after ≡ before))
    ⊎ ((group : Group) × (group.tasks.items ≡ tasks) × (after ≡ before ++ group ∷ []))

-- Leases of one board and denomination: those that one search serves together with the first of some leases that these
-- receipts show as given.
pub record IsLentUnder (receipts : List Receipt) (group : Group) : Type 0 where
  pub tasks : List Task
  pub given : AreGiven receipts tasks
  pub are : group.tasks.items ≡ group_of tasks

-- the message for the checkers of an answer: its bundle, and the leases that it has a claim for
pub record IsMessageOf (ask : Ask) (message : FoundBundle) : Type 0 where
  pub found : found_in ask.answer ≡ Some message.bundle
  pub tasks_are : message.tasks.items ≡ claimed_in ask

-- a message with these leases and this bundle was put; without a lease none was
abbrev pub PutsLeases : List Task → Bundle → List FoundBundle → List FoundBundle → Type 0
PutsLeases tasks bundle before after =
    ((tasks ≡ []) × (after ≡ before))
    ⊎ ((message : FoundBundle) × (message.tasks.items ≡ tasks) × (message.bundle ≡ bundle)
    × (after ≡ before ++ message ∷ []))

-- a message of one of these answers
pub record IsFoundBy (asks : List Ask) (message : FoundBundle) : Type 0 where
  pub ask : Ask
  pub is_one : Contains asks ask
  pub answers : IsMessageOf ask message

-- the claim for a lease: the first claim that the bundle has for its declarer
pub record IsClaimFor (bundle : Bundle) (pair : CheckedPair) (task : Task) (checked : CheckedClaim) : Type 0 where
  pub claim : Claim
  pub first : claim_for bundle.claims.items task.entry.declarer ≡ Some claim
  pub task_is : checked.task ≡ task
  pub claimed : IsClaimedOf pair claim checked.claimed

-- the claim for a lease was put, or none was
abbrev pub PutsClaim : Bundle → CheckedPair → Task → List CheckedClaim → List CheckedClaim → Type 0
PutsClaim bundle pair task before after =
    (after ≡ before) ⊎ ((checked : CheckedClaim) × IsClaimFor bundle pair task checked
    × (after ≡ before ++ checked ∷ []))

-- claims for some of these leases, in the order of the leases
abbrev pub AreClaimsFor : Bundle → CheckedPair → List Task → List CheckedClaim → Type 0
AreClaimsFor bundle pair [] claims = claims ≡ []
AreClaimsFor bundle pair (task ∷ tasks) claims =
    AreClaimsFor bundle pair tasks claims
    ⊎ ((checked : CheckedClaim) × (rest : List CheckedClaim) × (claims ≡ checked ∷ rest)
    × IsClaimFor bundle pair task checked × AreClaimsFor bundle pair tasks rest)

-- claims for leases of a message were put, on the checked graphs of its bundle, or no claim was
abbrev pub PutsClaims : FoundBundle → List CheckedClaim → List CheckedClaim → Type 0
PutsClaims message before after =
    (after ≡ before)
    ⊎ ((pair : CheckedPair) × (claims : List CheckedClaim) × IsPairOf message.bundle pair
    × AreClaimsFor message.bundle pair message.tasks.items claims × (after ≡ before ++ claims))

-- a claim for a lease of one of these messages, on the checked graphs of its bundle
pub record IsClaimUnder (messages : List FoundBundle) (checked : CheckedClaim) : Type 0 where
  pub message : FoundBundle
  pub is_one : Contains messages message
  pub pair : CheckedPair
  pub pair_is : IsPairOf message.bundle pair
  pub task : Task
  pub task_is : Contains message.tasks.items task
  pub claims : IsClaimFor message.bundle pair task checked

-- The way of leases from receipts through messages to receipts, by their weights.
use Rattle.std.specs.Prelude.{◌≡◌, ℕ, ◌+◌, ◌≤◌, List, sum_by}
use Rattle.lease_desk.specs.declared.receipts.Receipt.{Receipt}
use Rattle.lease_desk.specs.Desks.{receipts_in}
use Rattle.farm_relay.specs.Relays.{put_by, taken_by}
use Rattle.farm.specs.declared.tasks.Group.{Group}
use Rattle.farm.specs.declared.tasks.FoundBundle.{FoundBundle}
use Rattle.farm.specs.declared.tasks.CheckedClaim.{CheckedClaim}
use Rattle.farm.specs.declared.posts.LenderPost.{LenderPost}
use Rattle.farm.specs.declared.posts.CheckerPost.{CheckerPost}
use Rattle.farm.specs.declared.posts.ClerkPost.{ClerkPost}
use Rattle.lease_book.specs.Settling.{given_by, settled_by}
use Rattle.farm.specs.Leases.{given_up_by, handed_in_by}
pub use Rattle.farm.specs.Asks.{of_task, of_tasks}

module _ (weight : ℕ → ℕ) where
  -- the leases that receipts show as given, and those that they show as settled
  abbrev pub given : List Receipt → ℕ
  given receipts = sum_by (λ receipt. given_by weight receipt.event.asked receipt.event.reply) receipts

  abbrev pub settled : List Receipt → ℕ
  settled receipts = sum_by (λ receipt. settled_by weight receipt.event.asked) receipts

  -- of those settled, the leases given up, and those under which something was handed in
  abbrev pub given_up : List Receipt → ℕ
  given_up receipts = sum_by (λ receipt. given_up_by weight receipt.event.asked) receipts

  abbrev pub handed_in : List Receipt → ℕ
  handed_in receipts = sum_by (λ receipt. handed_in_by weight receipt.event.asked) receipts

  -- the leases of groups, of messages to checkers, and of claims
  abbrev pub of_group : Group → ℕ
  of_group group = of_tasks weight group.tasks.items

  abbrev pub of_found : FoundBundle → ℕ
  of_found message = of_tasks weight message.tasks.items

  abbrev pub of_claim : CheckedClaim → ℕ
  of_claim claim = weight claim.task.lease

  abbrev pub all_lent : List Group → ℕ
  all_lent groups = sum_by of_group groups

  abbrev pub all_found : List FoundBundle → ℕ
  all_found messages = sum_by of_found messages

  abbrev pub all_claimed : List CheckedClaim → ℕ
  all_claimed claims = sum_by of_claim claims

  -- Between earlier and later receipts of a thread: it settled nothing since then, and the leases that it has in hand are
  -- those that it had and those that it was given since then.
  pub record Moves (old new : List Receipt) (had has : ℕ) : Type 0 where
    pub settled_none : settled new ≡ settled old
    pub in_hand : has + given old ≡ had + given new

  -- Between earlier and later receipts of a thread: it gave up leases of this weight, and made no other request that
  -- settles a lease or is given one.
  pub record GaveUp (old new : List Receipt) (leases : ℕ) : Type 0 where
    pub gave_up : given_up new ≡ given_up old + leases
    pub handed_in_none : handed_in new ≡ handed_in old
    pub given_none : given new ≡ given old

  -- the lender put all the leases that it was given, and settled none
  pub record LendsAll (post : LenderPost) : Type 0 where
    pub settled_none : settled (receipts_in post.chair) ≡ 0
    pub lends : all_lent (put_by post.groups) ≡ given (receipts_in post.chair)

  -- the claims that a checker put are for leases of the messages that it took, each for another lease
  abbrev pub ClaimsOwn : CheckerPost → Type 0
  ClaimsOwn post = all_claimed (put_by post.claims) ≤ all_found (taken_by post.found)

  -- a clerk handed something in just under the leases of the claims that it took, gave none up, and was given none
  pub record SettlesClaims (post : ClerkPost) : Type 0 where
    pub handed_in_all : handed_in (receipts_in post.chair) ≡ all_claimed (taken_by post.claims)
    pub given_up_none : given_up (receipts_in post.chair) ≡ 0
    pub given_none : given (receipts_in post.chair) ≡ 0

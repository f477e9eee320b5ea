-- The calls of the solver at all posts.
use Rattle.std.proofs.Common.{◌≡◌, ℕ, ◌+◌, ◌-◌, ◌^◌, ◌≤◌, min, not, List, [], ◌∷◌, ◌++◌, All, length, sum_by, Option, Result, Ok, Err, refl, sym, ap, ◌∙◌, subst, arith}
use Rattle.std.proofs.lemmas.List.Elements.{All-nil, All-head, All-tail, All-append}
use Rattle.std.proofs.lemmas.List.Sums.{sum_by-append, sum_by-cons}
use Rattle.std.proofs.lemmas.List.Filters.{sum_by-filter_both}
use Rattle.std.specs.declared.alloc.AllocError.{AllocError}
use Rattle.certificate_graph.specs.declared.bundles.Bundle.{Bundle}
use Rattle.lease_desk.specs.declared.chairs.Chair.{Chair}
use Rattle.lease_desk.specs.Desks.{receipts_in}
use Rattle.farm_relay.specs.Relays.{put_by, taken_by}
use Rattle.farm.specs.declared.crews.Crew.{Crew}
use Rattle.farm.specs.declared.tasks.Task.{Task}
use Rattle.farm.specs.declared.tasks.Group.{Group}
use Rattle.farm.specs.declared.posts.SolverPost.{SolverPost}
use Rattle.certificate_graph.specs.Solvers.{MayFind}
use Rattle.farm.specs.Leases.{one_each}
use Rattle.farm.specs.Flows.{settled, given_up, handed_in, of_task, of_tasks, all_lent, all_found}
use Rattle.farm.specs.Asks.{Ask, IsAsked, has_claim, found_in, claimed_in, vain_in, steps_of, steps_in, all_asked, all_answered, all_vain, all_steps, as_counted}
use Rattle.lease_desk.specs.declared.receipts.Receipt.{Receipt}
use Rattle.farm.specs.Requests.{WasGiven}
use Rattle.farm.specs.Posts.{AsksTaken, steps_at}
use Rattle.farm.proofs.Flows.{settled_parts}
use Rattle.farm.proofs.Sums.{sum_of_parts}
use Rattle.farm.proofs.Leased.{AreGivenIn, of_map, from_map}

-- each lease of a call has a claim, or was asked for in vain
pub asked_parts : (weight : ℕ → ℕ) (asks : List Ask) → all_answered weight asks + all_vain weight asks ≡ all_asked weight asks
asked_parts weight [] = refl
asked_parts weight (ask ∷ asks) =
    let rest = asked_parts weight asks in
    let one = sum_by-filter_both (has_claim (found_in ask.answer)) (λ t. not (has_claim (found_in ask.answer) t)) (λ t. refl) (of_task weight) ask.tasks in
    omega (
      arith,
      sum_by-cons (λ (a : Ask). of_tasks weight (claimed_in a)) ask asks,
      sum_by-cons (λ (a : Ask). of_tasks weight (vain_in a)) ask asks,
      sum_by-cons (λ (a : Ask). of_tasks weight a.tasks) ask asks,
    )

-- those that ran out of steps are among those in vain
each_once : (tasks : List Task) → of_tasks one_each tasks ≡ length tasks
each_once [] = refl
each_once (task ∷ tasks) = let rest = each_once tasks in omega (arith, sum_by-cons (of_task one_each) task tasks)

steps_below : (ask : Ask) → steps_in ask ≤ length (vain_in ask)
steps_below ask = below ask.answer (length (vain_in ask))
  where
    below : (answer : Result (Option Bundle) AllocError) (n : ℕ) → steps_of answer n ≤ n
    below (Ok found) n = omega arith
    below (Err fault) n = omega arith

pub all_steps_below : (asks : List Ask) → all_steps asks ≤ all_vain one_each asks
all_steps_below [] = omega arith
all_steps_below (ask ∷ asks) =
    let rest = all_steps_below asks in
    let one = steps_below ask in
    let each = each_once (vain_in ask) in
    omega (arith, sum_by-cons steps_in ask asks, sum_by-cons (λ (a : Ask). of_tasks one_each (vain_in a)) ask asks)

-- what chairs settled, they gave up or handed in under
pub settled_at : (weight : ℕ → ℕ) (chairs : List Chair) → sum_by (λ chair. settled weight (receipts_in chair)) chairs
    ≡ sum_by (λ chair. given_up weight (receipts_in chair)) chairs + sum_by (λ chair. handed_in weight (receipts_in chair)) chairs
settled_at weight [] = refl
settled_at weight (c ∷ cs) =
    let rest = settled_at weight cs in
    let one = settled_parts weight (receipts_in c) in
    omega (
      arith,
      sum_by-cons (λ (chair : Chair). settled weight (receipts_in chair)) c cs,
      sum_by-cons (λ (chair : Chair). given_up weight (receipts_in chair)) c cs,
      sum_by-cons (λ (chair : Chair). handed_in weight (receipts_in chair)) c cs,
    )

-- sums up to the most that a count can be
counted_then : (most a b x y : ℕ) → min a most ≡ min x most → min b most ≡ min y most → min (a + b) most ≡ min (x + y) most
counted_then most a b x y one rest = omega arith

module _ {S G C : Type 0} (may_find : S → MayFind) (crew : Crew S G C) where
  -- the groups that a solver took are those that it was called for
  taken_asked : (weight : ℕ → ℕ) (post : SolverPost) (own : AsksTaken may_find crew post) → all_lent weight (taken_by post.groups) ≡ all_asked weight own.asks
  taken_asked weight post own =
      sym (sum_of_parts (of_tasks weight) (λ (g : Group). g.tasks.items) (taken_by post.groups))
      ∙ sym (ap (sum_by (of_tasks weight)) own.groups)
      ∙ sum_of_parts (of_tasks weight) (λ (a : Ask). a.tasks) own.asks

  -- the calls at posts, one post after another
  pub record AreGathered (posts : List SolverPost) : Type 0 where
    pub asks : List Ask
    pub asked : All (IsAsked (may_find crew.means.solver.now) crew.deals.now crew.settings.budget) asks
    pub taken : (weight : ℕ → ℕ) → sum_by (λ post. all_lent weight (taken_by post.groups)) posts ≡ all_asked weight asks
    pub found : (weight : ℕ → ℕ) → sum_by (λ post. all_found weight (put_by post.found)) posts ≡ all_answered weight asks
    pub gave_up : (weight : ℕ → ℕ) → sum_by (λ post. given_up weight (receipts_in post.chair)) posts ≡ all_vain weight asks
    pub handed_in_none : (weight : ℕ → ℕ) → sum_by (λ post. handed_in weight (receipts_in post.chair)) posts ≡ 0
    pub counted : steps_at posts ≡ as_counted (all_steps asks)
    pub given : (receipts : List Receipt) → All (AreGivenIn receipts) posts → All (λ ask. All (WasGiven receipts) ask.tasks) asks

  pub gathered : (posts : List SolverPost) → All (AsksTaken may_find crew) posts → AreGathered posts
  gathered [] all = record {
    asks = [];
    asked = All-nil (IsAsked (may_find crew.means.solver.now) crew.deals.now crew.settings.budget);
    taken = λ weight. refl;
    found = λ weight. refl;
    gave_up = λ weight. refl;
    handed_in_none = λ weight. refl;
    counted = refl;
    given = λ receipts all. All-nil (λ ask. All (WasGiven receipts) ask.tasks);
  }
  gathered (post ∷ posts) all =
      let own = All-head (AsksTaken may_find crew) post posts all in
      let rest = gathered posts (All-tail (AsksTaken may_find crew) post posts all) in
      record {
        asks = own.asks ++ rest.asks;
        asked = All-append (IsAsked (may_find crew.means.solver.now) crew.deals.now crew.settings.budget) own.asks rest.asks own.asked rest.asked;
        taken = λ weight.
            let one = taken_asked weight post own in
            let others = rest.taken weight in
            omega (arith, sum_by-cons (λ (p : SolverPost). all_lent weight (taken_by p.groups)) post posts, sum_by-append (λ (a : Ask). of_tasks weight a.tasks) own.asks rest.asks);
        found = λ weight.
            let one = own.found weight in
            let others = rest.found weight in
            omega (arith, sum_by-cons (λ (p : SolverPost). all_found weight (put_by p.found)) post posts, sum_by-append (λ (a : Ask). of_tasks weight (claimed_in a)) own.asks rest.asks);
        gave_up = λ weight.
            let one = (own.gave_up weight).gave_up in
            let none : given_up weight [] ≡ 0 = refl in
            let others = rest.gave_up weight in
            omega (arith, sum_by-cons (λ (p : SolverPost). given_up weight (receipts_in p.chair)) post posts, sum_by-append (λ (a : Ask). of_tasks weight (vain_in a)) own.asks rest.asks);
        handed_in_none = λ weight.
            let one = (own.gave_up weight).handed_in_none in
            let none : handed_in weight [] ≡ 0 = refl in
            let others = rest.handed_in_none weight in
            omega (arith, sum_by-cons (λ (p : SolverPost). handed_in weight (receipts_in p.chair)) post posts);
        counted =
            let sum = ap as_counted (sum_by-cons (λ (p : SolverPost). p.steps) post posts) in
            let all = ap as_counted (sum_by-append steps_in own.asks rest.asks) in
            sum ∙ counted_then (2 ^ 64 - 1) post.steps (sum_by (λ (p : SolverPost). p.steps) posts) (all_steps own.asks) (all_steps rest.asks) own.steps rest.counted ∙ sym all;
        given = λ receipts all_given.
            let Of : List Task → Type 0 = All (WasGiven receipts) in
            let AreOf : Ask → Type 0 = λ ask. All (WasGiven receipts) ask.tasks in
            let mine = All-head (AreGivenIn receipts) post posts all_given in
            let in_groups = of_map Of (λ (g : Group). g.tasks.items) (taken_by post.groups) mine in
            let in_asks = from_map Of (λ (a : Ask). a.tasks) own.asks (subst (λ (l : List (List Task)). All Of l) (sym own.groups) in_groups) in
            All-append AreOf own.asks rest.asks in_asks (rest.given receipts (All-tail (AreGivenIn receipts) post posts all_given));
      }

-- Groups, messages, claims and hand-ins, one after another.
use Rattle.std.proofs.Common.{◌≡◌, ℕ, ◌+◌, ◌<◌, ◌≤◌, Bool, not, List, [], ◌∷◌, ◌++◌, Some, None, All, Contains, refl, sym, ap, ◌∙◌, subst, inl, inr, ⊎_elim, append_assoc, append-nil, arith, take, drop, length, get_or, take-append-drop}
use Rattle.std.proofs.lemmas.List.{take_more}
use Rattle.std.proofs.lemmas.List.Sums.{sum_by_push}
use Rattle.std.proofs.lemmas.List.Elements.{All-nil, All-cons, All-push, All-append, All-weaker, All-filter, Contains-push, Contains-append_left, Contains-append_right}
use Rattle.lease_book.specs.declared.events.Asked.TheVariants.{Lease}
use Rattle.lease_book.specs.declared.events.Reply.TheVariants.{Given}
use Rattle.lease_book.specs.Histories.{Terms}
use Rattle.lease_desk.specs.declared.receipts.Receipt.{Receipt}
use Rattle.certificate_graph.specs.declared.bundles.Bundle.{Bundle}
use Rattle.checker.specs.declared.pairs.CheckedPair.{CheckedPair}
use Rattle.checker.specs.Pairs.{IsPairOf}
use Rattle.farm.specs.declared.tasks.Task.{Task}
use Rattle.farm.specs.declared.tasks.Group.{Group}
use Rattle.farm.specs.declared.tasks.FoundBundle.{FoundBundle}
use Rattle.farm.specs.declared.tasks.CheckedClaim.{CheckedClaim}
use Rattle.farm.specs.Groups.{group_of, others_of, is_with}
use Rattle.farm.specs.Flows.{of_tasks, of_group, all_lent}
use Rattle.farm.specs.Requests.{IsNextTask, FreesLeases, WasGiven, AreGiven, Continues, HandsIn, AreHandedIn}
use Rattle.farm.specs.Findings.{PutsTasks, IsLentUnder, IsClaimFor, PutsClaim, AreClaimsFor, PutsClaims, IsClaimUnder}

-- ---- receipts that go on
pub same_receipts : (receipts : List Receipt) → Continues receipts receipts
same_receipts receipts = ([], sym (append-nil receipts))

pub continues_then : (first now last : List Receipt) → Continues first now → Continues now last → Continues first last
continues_then first now last one other =
    (one.0 ++ other.0, other.1 ∙ ap (λ l. l ++ other.0) one.1 ∙ append_assoc first one.0 other.0)

pub nothing_on : (before after : List Receipt) → IsNextTask before after None → Continues before after
nothing_on before after next = (_, next.1.1)

pub next_on : (before after : List Receipt) (task : Task) → IsNextTask before after (Some task) → Continues before after
next_on before after task next = (_, next.2.1)

pub freeing_on : (before after : List Receipt) (freed : Bool) → FreesLeases before after freed → Continues before after
freeing_on before after freed frees = (_, frees.3.1)

-- what was given is given later
given_still : (before after : List Receipt) → Continues before after → (task : Task) → WasGiven before task → WasGiven after task
given_still before after on task given =
    let told : Receipt = record { place = given.0; event = record { asked = Lease given.1; reply = Given task.lease task.entry given.2 } } in
    (given.0, given.1, given.2, subst (λ (l : List Receipt). Contains l told) (sym on.1) (Contains-append_left before on.0 told given.3))

-- the task that was asked for is given
pub next_given : (before after : List Receipt) (task : Task) → IsNextTask before after (Some task) → WasGiven after task
next_given before after task next =
    let told : Receipt = record { place = next.2.0; event = record { asked = Lease next.0; reply = Given task.lease task.entry next.1 } } in
    (next.2.0, next.0, next.1, subst (λ (l : List Receipt). Contains l told) (sym next.2.1) (Contains-push before told))

pub given_on : (before after : List Receipt) (tasks : List Task) → Continues before after → AreGiven before tasks → AreGiven after tasks
given_on before after tasks on given = record { each = All-weaker (WasGiven before) (WasGiven after) (given_still before after on) tasks given.each }

pub first_given : (receipts : List Receipt) (tasks : List Task) (task : Task) → tasks ≡ task ∷ [] → WasGiven receipts task → AreGiven receipts tasks
first_given receipts tasks task is given = record {
  each = subst (λ (l : List Task). All (WasGiven receipts) l) (sym is) (All-cons (WasGiven receipts) task [] given (All-nil (WasGiven receipts)));
}

-- a list with one item
pub only_one : (none one : List Task) (task : Task) → one ≡ none ++ task ∷ [] → none ≡ [] → one ≡ task ∷ []
only_one none one task is empty = is ∙ ap (λ l. l ++ task ∷ []) empty

pub one_long : (one : List Task) (task : Task) → one ≡ task ∷ [] → length one ≤ 1
one_long one task is = let many = ap length is in omega arith

-- one task more is given
pub given_more : (before after : List Receipt) (tasks more : List Task) (task : Task) → more ≡ tasks ++ task ∷ [] → AreGiven before tasks → IsNextTask before after (Some task) → AreGiven after more
given_more before after tasks more task is given next =
    let still = given_on before after tasks (next_on before after task next) given in
    record {
      each = subst (λ (l : List Task). All (WasGiven after) l) (sym is) (All-push (WasGiven after) tasks task still.each (next_given before after task next));
    }

-- the tasks of no group are given
pub others_given : (receipts : List Receipt) (tasks others : List Task) → others ≡ others_of tasks → AreGiven receipts tasks → AreGiven receipts others
others_given receipts tasks others is given = subst (λ (l : List Task). AreGiven receipts l) (sym is) (of tasks given)
  where
    of : (tasks : List Task) → AreGiven receipts tasks → AreGiven receipts (others_of tasks)
    of [] given = given
    of (first ∷ rest) given = record { each = All-filter (λ task. not (is_with first task)) (WasGiven receipts) (first ∷ rest) given.each }

-- ---- groups for solvers
lent_still : (before after : List Receipt) → Continues before after → (group : Group) → IsLentUnder before group → IsLentUnder after group
lent_still before after on group is = record {
  tasks = is.tasks;
  given = given_on before after is.tasks on is.given;
  are = is.are;
}

-- the receipts go on
pub lent_on : (before after : List Receipt) (groups : List Group) → Continues before after → All (IsLentUnder before) groups → All (IsLentUnder after) groups
lent_on before after groups on all = All-weaker (IsLentUnder before) (IsLentUnder after) (lent_still before after on) groups all

-- one group more was put, or none was
pub lends_more : (receipts : List Receipt) (tasks chosen : List Task) (before after : List Group) → chosen ≡ group_of tasks → AreGiven receipts tasks → PutsTasks chosen before after → All (IsLentUnder receipts) before → All (IsLentUnder receipts) after
lends_more receipts tasks chosen before after is given puts all =
    let Of : Group → Type 0 = IsLentUnder receipts in
    ⊎_elim
    (λ none. subst (λ (l : List Group). All Of l) (sym none.1) all)
    (λ one.
    let last : Of one.0 = record { tasks = tasks; given = given; are = one.1 ∙ is } in
    subst (λ (l : List Group). All Of l) (sym one.2) (All-push Of before one.0 all last))
    puts

pub lent_more : (weight : ℕ → ℕ) (tasks : List Task) (before after : List Group) → PutsTasks tasks before after → all_lent weight after ≡ all_lent weight before + of_tasks weight tasks
lent_more weight tasks before after puts =
    ⊎_elim
    (λ none.
    let same = ap (all_lent weight) none.1 in
    let nothing = ap (of_tasks weight) none.0 in
    omega arith)
    (λ one.
    let more = ap (all_lent weight) one.2 in
    let tasks_are = ap (of_tasks weight) one.1 in
    omega (arith, sum_by_push (of_group weight) before one.0))
    puts

-- ---- claims to clerks
module _ (bundle : Bundle) (pair : CheckedPair) where
  no_claims : (tasks : List Task) (claims : List CheckedClaim) → claims ≡ [] → AreClaimsFor bundle pair tasks claims
  no_claims [] claims none = none
  no_claims (task ∷ tasks) claims none = inl (no_claims tasks claims none)

  -- they are claims for these leases and for more
  pub claims_among : (tasks more : List Task) (claims : List CheckedClaim) → AreClaimsFor bundle pair tasks claims → AreClaimsFor bundle pair (tasks ++ more) claims
  claims_among [] more claims none = no_claims more claims none
  claims_among (task ∷ tasks) more claims are =
      ⊎_elim
      (λ (later : AreClaimsFor bundle pair tasks claims). inl (claims_among tasks more claims later))
      (λ one. inr (one.0, one.1, one.2, one.3, claims_among tasks more one.1 one.4))
      are

  -- one claim more
  claims_more : (tasks : List Task) (claims : List CheckedClaim) (task : Task) (checked : CheckedClaim) → AreClaimsFor bundle pair tasks claims → IsClaimFor bundle pair task checked → AreClaimsFor bundle pair (tasks ++ task ∷ []) (claims ++ checked ∷ [])
  claims_more [] claims task checked none is = inr (checked, [], ap (λ l. l ++ checked ∷ []) none, is, refl)
  claims_more (first ∷ tasks) claims task checked are is =
      ⊎_elim
      (λ (later : AreClaimsFor bundle pair tasks claims). inl (claims_more tasks claims task checked later is))
      (λ one. inr (one.0, one.1 ++ checked ∷ [], ap (λ l. l ++ checked ∷ []) one.2, one.3, claims_more tasks one.1 task checked one.4 is))
      are

  -- claims for these leases were put since
  abbrev pub HasPut : List Task → List CheckedClaim → List CheckedClaim → Type 0
  HasPut tasks before after = (claims : List CheckedClaim) × AreClaimsFor bundle pair tasks claims × (after ≡ before ++ claims)

  pub put_more : (tasks : List Task) (task : Task) (before now after : List CheckedClaim) → HasPut tasks before now → PutsClaim bundle pair task now after → HasPut (tasks ++ task ∷ []) before after
  put_more tasks task before now after put puts =
      ⊎_elim
      (λ (none : after ≡ now). (put.0, claims_among tasks (task ∷ []) put.0 put.1, none ∙ put.2))
      (λ one. (
        put.0 ++ one.0 ∷ [],
        claims_more tasks put.0 task one.0 put.1 one.1,
        one.2 ∙ ap (λ l. l ++ one.0 ∷ []) put.2 ∙ append_assoc before put.0 (one.0 ∷ []),
      ))
      puts

  -- the claim for the next of these leases
  pub put_next : (tasks : List Task) (i : ℕ) (d : Task) (before now after : List CheckedClaim) → i < length tasks → HasPut (take i tasks) before now → PutsClaim bundle pair (get_or tasks i d) now after → HasPut (take (i + 1) tasks) before after
  put_next tasks i d before now after within put puts =
      subst (λ (l : List Task). HasPut l before after) (sym (take_more tasks i d within)) (put_more (take i tasks) (get_or tasks i d) before now after put puts)

  -- claims for the first of these leases are claims for these leases
  pub put_early : (tasks : List Task) (n : ℕ) (before after : List CheckedClaim) → HasPut (take n tasks) before after → HasPut tasks before after
  put_early tasks n before after put =
      subst (λ (l : List Task). HasPut l before after) (take-append-drop n tasks) (put.0, claims_among (take n tasks) (drop n tasks) put.0 put.1, put.2)

-- claims for leases of a message that was taken
claims_under : (messages : List FoundBundle) (message : FoundBundle) (pair : CheckedPair) → Contains messages message → IsPairOf message.bundle pair → (tasks : List Task) → ((task : Task) → Contains tasks task → Contains message.tasks.items task) → (claims : List CheckedClaim) → AreClaimsFor message.bundle pair tasks claims → All (IsClaimUnder messages) claims
claims_under messages message pair there pair_is [] within claims none =
    subst (λ (l : List CheckedClaim). All (IsClaimUnder messages) l) (sym none) (All-nil (IsClaimUnder messages))
claims_under messages message pair there pair_is (task ∷ tasks) within claims are =
    let rest : (later : Task) → Contains tasks later → Contains message.tasks.items later = λ later has. within later (Contains-append_right (task ∷ []) tasks later has) in
    ⊎_elim
    (λ (later : AreClaimsFor message.bundle pair tasks claims). claims_under messages message pair there pair_is tasks rest claims later)
    (λ one.
    let first : IsClaimUnder messages one.0 = record {
      message = message;
      is_one = there;
      pair = pair;
      pair_is = pair_is;
      task = task;
      task_is = within task (Contains-append_left (task ∷ []) tasks task (Contains-push [] task));
      claims = one.3;
    } in
    subst (λ (l : List CheckedClaim). All (IsClaimUnder messages) l) (sym one.2)
    (All-cons (IsClaimUnder messages) one.0 one.1 first (claims_under messages message pair there pair_is tasks rest one.1 one.4)))
    are

claim_still : (messages : List FoundBundle) (message : FoundBundle) (checked : CheckedClaim) → IsClaimUnder messages checked → IsClaimUnder (messages ++ message ∷ []) checked
claim_still messages message checked is = record {
  message = is.message;
  is_one = Contains-append_left messages (message ∷ []) is.message is.is_one;
  pair = is.pair;
  pair_is = is.pair_is;
  task = is.task;
  task_is = is.task_is;
  claims = is.claims;
}

-- the claims for one message more
pub claims_taken_more : (taken now : List FoundBundle) (message : FoundBundle) (before after : List CheckedClaim) → now ≡ taken ++ message ∷ [] → PutsClaims message before after → All (IsClaimUnder taken) before → All (IsClaimUnder now) after
claims_taken_more taken now message before after took puts all =
    let With : List FoundBundle → List CheckedClaim → Type 0 = λ messages claims. All (IsClaimUnder messages) claims in
    let Of : CheckedClaim → Type 0 = IsClaimUnder (taken ++ message ∷ []) in
    let still : All Of before = All-weaker (IsClaimUnder taken) Of (claim_still taken message) before all in
    subst (λ (m : List FoundBundle). With m after) (sym took)
    (⊎_elim
    (λ (none : after ≡ before). subst (λ (l : List CheckedClaim). All Of l) (sym none) still)
    (λ one. subst (λ (l : List CheckedClaim). All Of l) (sym one.4)
    (All-append Of before one.1 still (claims_under (taken ++ message ∷ []) message one.0 (Contains-push taken message) one.2 message.tasks.items (λ task has. has) one.1 one.3)))
    puts)

-- ---- hand-ins
pub handed_in_more : (terms : Terms) (claims : List CheckedClaim) (claim : CheckedClaim) (before now after : List Receipt) → AreHandedIn terms claims before now → HandsIn terms claim now after → AreHandedIn terms (claims ++ claim ∷ []) before after
handed_in_more terms [] claim before now after none is = (after, subst (λ (l : List Receipt). HandsIn terms claim l after) none is, refl)
handed_in_more terms (first ∷ claims) claim before now after are is =
    (are.0, are.1, handed_in_more terms claims claim are.0 now after are.2 is)

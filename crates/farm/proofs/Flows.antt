-- How what is in hand changes with the receipts.
use Rattle.std.proofs.Common.{◌≡◌, ℕ, ◌+◌, ◌<◌, ◌≤◌, List, [], ◌∷◌, ◌++◌, None, Some, Bool, refl, sym, ap, ◌∙◌, subst, arith, take, length, get_or}
use Rattle.std.proofs.lemmas.List.{take_more}
use Rattle.std.proofs.lemmas.List.Sums.{sum_by-cons, sum_by_push}
use Rattle.lease_book.specs.declared.events.Asked.{Asked}
use Rattle.lease_book.specs.declared.events.Asked.TheVariants.{Lease, Expire, GiveUp, HandIn}
use Rattle.lease_book.specs.Histories.{Terms}
use Rattle.lease_desk.specs.declared.receipts.Receipt.{Receipt}
use Rattle.farm_relay.specs.declared.putters.Putter.{Putter}
use Rattle.farm_relay.specs.Relays.{PutsAtSame}
use Rattle.farm.specs.declared.tasks.Task.{Task}
use Rattle.farm.specs.declared.tasks.CheckedClaim.{CheckedClaim}
use Rattle.lease_book.specs.Settling.{given_by, settled_by}
use Rattle.farm.specs.Leases.{given_up_by, handed_in_by}
use Rattle.farm.specs.Requests.{IsNextTask, FreesLeases, GivesUp, HandsIn}
use Rattle.farm.specs.Flows.{given, settled, given_up, handed_in, of_task, of_tasks, Moves, GaveUp}

-- an end that went through two calls
pub puts_then : {T : Type 0} (first now last : Putter T) → PutsAtSame first now → PutsAtSame now last → PutsAtSame first last
puts_then first now last one other =
    record { channel = other.channel ∙ one.channel; takers = other.takers ∙ one.takers; others = other.others ∙ one.others }

-- what is settled is given up, or handed in under
of_one : (weight : ℕ → ℕ) (asked : Asked) → settled_by weight asked ≡ given_up_by weight asked + handed_in_by weight asked
of_one weight (Lease now) = refl
of_one weight (Expire now) = refl
of_one weight (GiveUp lease) = omega arith
of_one weight (HandIn lease entry evidence) = omega arith

pub settled_parts : (weight : ℕ → ℕ) (receipts : List Receipt) → settled weight receipts ≡ given_up weight receipts + handed_in weight receipts
settled_parts weight [] = refl
settled_parts weight (r ∷ rs) =
    let one = of_one weight r.event.asked in
    let rest = settled_parts weight rs in
    omega (
      arith,
      sum_by-cons (λ (r : Receipt). settled_by weight r.event.asked) r rs,
      sum_by-cons (λ (r : Receipt). given_up_by weight r.event.asked) r rs,
      sum_by-cons (λ (r : Receipt). handed_in_by weight r.event.asked) r rs,
    )

module _ (weight : ℕ → ℕ) where
  given_more : (before after : List Receipt) (told : Receipt) → after ≡ before ++ told ∷ [] → given weight after ≡ given weight before + given_by weight told.event.asked told.event.reply
  given_more before after told is = ap (given weight) is ∙ sum_by_push (λ (r : Receipt). given_by weight r.event.asked r.event.reply) before told

  settled_more : (before after : List Receipt) (told : Receipt) → after ≡ before ++ told ∷ [] → settled weight after ≡ settled weight before + settled_by weight told.event.asked
  settled_more before after told is = ap (settled weight) is ∙ sum_by_push (λ (r : Receipt). settled_by weight r.event.asked) before told

  given_up_more : (before after : List Receipt) (told : Receipt) → after ≡ before ++ told ∷ [] → given_up weight after ≡ given_up weight before + given_up_by weight told.event.asked
  given_up_more before after told is = ap (given_up weight) is ∙ sum_by_push (λ (r : Receipt). given_up_by weight r.event.asked) before told

  handed_in_more : (before after : List Receipt) (told : Receipt) → after ≡ before ++ told ∷ [] → handed_in weight after ≡ handed_in weight before + handed_in_by weight told.event.asked
  handed_in_more before after told is = ap (handed_in weight) is ∙ sum_by_push (λ (r : Receipt). handed_in_by weight r.event.asked) before told

  pub task_moves : (before after : List Receipt) (task : Task) → IsNextTask before after (Some task) → Moves weight before after 0 (weight task.lease)
  task_moves before after task next =
      let a = given_more before after _ next.2.1 in
      let b = settled_more before after _ next.2.1 in
      record { settled_none = omega arith; in_hand = omega arith }

  pub nothing_moves : (before after : List Receipt) → IsNextTask before after None → Moves weight before after 0 0
  nothing_moves before after next =
      let a = given_more before after _ next.1.1 in
      let b = settled_more before after _ next.1.1 in
      record { settled_none = omega arith; in_hand = omega arith }

  pub freeing_moves : (before after : List Receipt) (freed : Bool) → FreesLeases before after freed → Moves weight before after 0 0
  freeing_moves before after freed frees =
      let a = given_more before after _ frees.3.1 in
      let b = settled_more before after _ frees.3.1 in
      record { settled_none = omega arith; in_hand = omega arith }

  -- one lease more is given up
  pub giving_up_moves : (before now after : List Receipt) (leases : ℕ) (lease : ℕ) → GaveUp weight before now leases → GivesUp lease now after → GaveUp weight before after (leases + weight lease)
  giving_up_moves before now after leases lease own gives =
      let a = given_up_more now after _ gives.1.1 in
      let b = handed_in_more now after _ gives.1.1 in
      let c = given_more now after _ gives.1.1 in
      let own_up = own.gave_up in
      let own_in = own.handed_in_none in
      let own_given = own.given_none in
      record { gave_up = omega arith; handed_in_none = omega arith; given_none = omega arith }

  -- the next of these leases is given up
  pub gave_more : (tasks : List Task) (i : ℕ) (d : Task) (before now after : List Receipt) → i < length tasks → GaveUp weight before now (of_tasks weight (take i tasks)) → GivesUp (get_or tasks i d).lease now after → GaveUp weight before after (of_tasks weight (take (i + 1) tasks))
  gave_more tasks i d before now after within own gives =
      let all = ap (of_tasks weight) (take_more tasks i d within) ∙ sum_by_push (of_task weight) (take i tasks) (get_or tasks i d) in
      subst (λ n. GaveUp weight before after n) (sym all) (giving_up_moves before now after (of_tasks weight (take i tasks)) (get_or tasks i d).lease own gives)

  -- a clerk hands in one claim more
  pub handing_in_moves : (terms : Terms) (claim : CheckedClaim) (before after : List Receipt) → HandsIn terms claim before after
      → (handed_in weight after ≡ handed_in weight before + weight claim.task.lease) × (given_up weight after ≡ given_up weight before) × (given weight after ≡ given weight before)
  handing_in_moves terms claim before after hands_in =
      let told = hands_in.0 in
      let is = hands_in.1.told_is in
      let a = given_more before after told is.receipts in
      let b = given_up_more before after told is.receipts in
      let d = handed_in_more before after told is.receipts in
      let e = ap (λ (q : Asked). given_by weight q told.event.reply) is.asked_is in
      let f = ap (λ (q : Asked). given_up_by weight q) is.asked_is in
      let g = ap (λ (q : Asked). handed_in_by weight q) is.asked_is in
      (omega arith, omega arith, omega arith)

  -- a batch of one lease
  pub leased_first : (receipts : List Receipt) (task : Task) (batch : List Task) → batch ≡ task ∷ [] → Moves weight receipts receipts (of_task weight task) (of_tasks weight batch)
  leased_first receipts task batch is =
      let all = ap (of_tasks weight) is in
      let one = sum_by-cons (of_task weight) task [] in
      record { settled_none = refl; in_hand = omega arith }

  -- and one of a lease more
  pub leased_more : (before now after : List Receipt) (had : ℕ) (tasks batch : List Task) (task : Task) → batch ≡ tasks ++ task ∷ [] → IsNextTask now after (Some task) → Moves weight before now had (of_tasks weight tasks) → Moves weight before after had (of_tasks weight batch)
  leased_more before now after had tasks batch task is next own =
      let moved = task_moves now after task next in
      let all = ap (of_tasks weight) is in
      let push = sum_by_push (of_task weight) tasks task in
      let a = moved.settled_none in
      let b = moved.in_hand in
      let c = own.settled_none in
      let d = own.in_hand in
      record { settled_none = omega arith; in_hand = omega arith }

  -- the claim for the next of these leases is put, or none is
  pub claimed_more : (tasks : List Task) (i : ℕ) (d : Task) (before now after : ℕ) → i < length tasks → now ≤ before + of_tasks weight (take i tasks) → after ≤ now + weight (get_or tasks i d).lease → after ≤ before + of_tasks weight (take (i + 1) tasks)
  claimed_more tasks i d before now after within own more =
      let all = ap (of_tasks weight) (take_more tasks i d within) in
      let one = sum_by_push (of_task weight) (take i tasks) (get_or tasks i d) in
      omega arith

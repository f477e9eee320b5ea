-- The leases for which the solver was called are those that the lender was given.
use Rattle.std.proofs.Common.{◌≡◌, ℕ, Bool, true, false, not, ◌&&◌, List, [], ◌∷◌, All, Contains, map, count_by, sum_by, refl, sym, ap, subst, ⊎_elim, arith}
use Rattle.std.specs.Prelude.{nat_eq, nat_lt}
use Rattle.std.proofs.lemmas.Bool.{cases_lt, and_parts, and_from, eqb-true, eq-eqb, ltb-true, lt-ltb}
use Rattle.std.proofs.lemmas.List.Elements.{All-nil, All-cons, All-head, All-tail, All-weaker, All-filter, All-contains}
use Rattle.lease_book.specs.declared.events.Asked.{Asked}
use Rattle.lease_book.specs.declared.events.Asked.TheVariants.{Lease, Expire, GiveUp, HandIn}
use Rattle.lease_book.specs.declared.events.Reply.{Reply}
use Rattle.lease_book.specs.declared.events.Reply.TheVariants.{Given, Nothing, Freed, GaveUp, UnknownLease, NotHeld, OtherEntry, AlreadyPublished, BadCertificate, Published}
use Rattle.lease_book.specs.Entries.{place_of}
use Rattle.lease_book.proofs.EntryLaws.{same_entry}
use Rattle.lease_desk.specs.declared.receipts.Receipt.{Receipt}
use Rattle.farm_relay.specs.Relays.{taken_by}
use Rattle.farm.specs.declared.tasks.Task.{Task}
use Rattle.farm.specs.declared.tasks.Group.{Group}
use Rattle.farm.specs.declared.posts.SolverPost.{SolverPost}
use Rattle.farm.specs.Groups.{group_of, is_with}
use Rattle.farm.specs.Findings.{IsLentUnder}
use Rattle.farm.specs.Requests.{WasGiven}
use Rattle.farm.proofs.Chairs.{zero_each, counted_is_there, one_if, uncounted}
use Rattle.farm.proofs.Sums.{sum_of_zeros}

-- whether a receipt shows a lease as given for the entry in a place
abbrev gives_as : ℕ → ℕ → Asked → Reply → Bool
gives_as lease place (Lease now) (Given other entry deadline) = nat_eq other lease && nat_eq (place_of entry) place
gives_as lease place _ _ = false

abbrev gives : Task → Receipt → Bool
gives task receipt = gives_as task.lease (place_of task.entry) receipt.event.asked receipt.event.reply

abbrev is_given_in : List Receipt → Task → Bool
is_given_in receipts task = nat_lt 0 (count_by (gives task) receipts)

shows : (receipts : List Receipt) (task : Task) → WasGiven receipts task → is_given_in receipts task ≡ true
shows receipts task given =
    let told : Receipt = record { place = given.0; event = record { asked = Lease given.1; reply = Given task.lease task.entry given.2 } } in
    let is : gives task told ≡ true = and_from (nat_eq task.lease task.lease) (nat_eq (place_of task.entry) (place_of task.entry)) (eq-eqb task.lease task.lease refl) (eq-eqb (place_of task.entry) (place_of task.entry) refl) in
    lt-ltb 0 (count_by (gives task) receipts)
    (⊎_elim
    (λ some. some)
    (λ none.
    let Apart : Receipt → Type 0 = λ r. one_if (gives task r) ≡ 0 in
    let nothing : count_by (gives task) receipts ≡ 0 = omega arith in
    let apart : All Apart receipts = zero_each (λ (r : Receipt). one_if (gives task r)) receipts nothing in
    let own : one_if (gives task told) ≡ 0 = All-contains Apart receipts told apart given.3 in
    let clash = uncounted (gives task told) is own in
    absurd (omega arith))
    (cases_lt 0 (count_by (gives task) receipts)))

gives_so : (task : Task) (asked : Asked) (reply : Reply) → gives_as task.lease (place_of task.entry) asked reply ≡ true → (now : ℕ) × (deadline : ℕ) × (asked ≡ Lease now) × (reply ≡ Given task.lease task.entry deadline)
gives_so task (Lease now) (Given lease entry deadline) is =
    let parts = and_parts (nat_eq lease task.lease) (nat_eq (place_of entry) (place_of task.entry)) is in
    let same = eqb-true lease task.lease parts.0 in
    let also = same_entry entry task.entry (eqb-true (place_of entry) (place_of task.entry) parts.1) in
    (now, deadline, refl, λ i. Given (same i) (also i) deadline)
gives_so task (Lease now) Nothing is = cc
gives_so task (Lease now) (Freed count) is = cc
gives_so task (Lease now) GaveUp is = cc
gives_so task (Lease now) UnknownLease is = cc
gives_so task (Lease now) NotHeld is = cc
gives_so task (Lease now) OtherEntry is = cc
gives_so task (Lease now) AlreadyPublished is = cc
gives_so task (Lease now) (BadCertificate fault) is = cc
gives_so task (Lease now) (Published k) is = cc
gives_so task (Expire now) reply is = cc
gives_so task (GiveUp lease) reply is = cc
gives_so task (HandIn lease entry evidence) reply is = cc

shown : (receipts : List Receipt) (task : Task) → is_given_in receipts task ≡ true → WasGiven receipts task
shown receipts task is =
    let found = counted_is_there (gives task) receipts (ltb-true 0 (count_by (gives task) receipts) is) in
    let told = found.0 in
    let so = gives_so task told.event.asked told.event.reply found.2 in
    let same : told ≡ record { place = told.place; event = record { asked = Lease so.0; reply = Given task.lease task.entry so.1 } } =
    λ i. record { place = told.place; event = record { asked = so.2 i; reply = so.3 i } } in
    (told.place, so.0, so.1, subst (λ (r : Receipt). Contains receipts r) same found.1)

-- how many leases of a group these receipts don't show as given
abbrev pub ungiven : List Receipt → Group → ℕ
ungiven receipts group = count_by (λ task. not (is_given_in receipts task)) group.tasks.items

all_given : (receipts : List Receipt) (tasks : List Task) → All (WasGiven receipts) tasks → count_by (λ task. not (is_given_in receipts task)) tasks ≡ 0
all_given receipts tasks all =
    sum_of_zeros (λ (t : Task). one_if (not (is_given_in receipts t))) tasks
    (All-weaker (WasGiven receipts) (λ (t : Task). one_if (not (is_given_in receipts t)) ≡ 0) (λ t given. ap (λ b. one_if (not b)) (shows receipts t given)) tasks all)

none_ungiven : (receipts : List Receipt) (tasks : List Task) → count_by (λ task. not (is_given_in receipts task)) tasks ≡ 0 → All (WasGiven receipts) tasks
none_ungiven receipts tasks none =
    All-weaker (λ (t : Task). one_if (not (is_given_in receipts t)) ≡ 0) (WasGiven receipts) (λ t zero. shown receipts t (passes_not (is_given_in receipts t) zero)) tasks
    (zero_each (λ (t : Task). one_if (not (is_given_in receipts t))) tasks none)
  where
    passes_not : (b : Bool) → one_if (not b) ≡ 0 → b ≡ true
    passes_not true is = refl
    passes_not false is = absurd (omega arith)

-- a group that was lent is of leases that were given
lent_given : (receipts : List Receipt) (group : Group) → IsLentUnder receipts group → ungiven receipts group ≡ 0
lent_given receipts group is =
    all_given receipts group.tasks.items (subst (λ (l : List Task). All (WasGiven receipts) l) (sym is.are) (of is.tasks is.given.each))
  where
    of : (tasks : List Task) → All (WasGiven receipts) tasks → All (WasGiven receipts) (group_of tasks)
    of [] all = all
    of (first ∷ rest) all = All-filter (is_with first) (WasGiven receipts) (first ∷ rest) all

pub none_lent_ungiven : (receipts : List Receipt) (groups : List Group) → All (IsLentUnder receipts) groups → sum_by (ungiven receipts) groups ≡ 0
none_lent_ungiven receipts groups all =
    sum_of_zeros (ungiven receipts) groups (All-weaker (IsLentUnder receipts) (λ g. ungiven receipts g ≡ 0) (lent_given receipts) groups all)

-- leases that were given, in the groups of posts
abbrev pub AreGivenIn : List Receipt → SolverPost → Type 0
AreGivenIn receipts post = All (λ (group : Group). All (WasGiven receipts) group.tasks.items) (taken_by post.groups)

pub taken_given : (receipts : List Receipt) (posts : List SolverPost) → sum_by (λ post. sum_by (ungiven receipts) (taken_by post.groups)) posts ≡ 0 → All (AreGivenIn receipts) posts
taken_given receipts posts none =
    All-weaker (λ (p : SolverPost). sum_by (ungiven receipts) (taken_by p.groups) ≡ 0) (AreGivenIn receipts)
    (λ p zero. All-weaker (λ (g : Group). ungiven receipts g ≡ 0) (λ (g : Group). All (WasGiven receipts) g.tasks.items) (λ g ungiven_none. none_ungiven receipts g.tasks.items ungiven_none) (taken_by p.groups) (zero_each (ungiven receipts) (taken_by p.groups) zero))
    posts
    (zero_each (λ (p : SolverPost). sum_by (ungiven receipts) (taken_by p.groups)) posts none)

pub of_map : {X Y : Type 0} (P : Y → Type 0) (f : X → Y) (xs : List X) → All (λ x. P (f x)) xs → All P (map f xs)
of_map P f [] all = All-nil P
of_map {X = X} P f (x ∷ xs) all =
    let Of : X → Type 0 = λ y. P (f y) in
    All-cons P (f x) (map f xs) (All-head Of x xs all) (of_map P f xs (All-tail Of x xs all))

pub from_map : {X Y : Type 0} (P : Y → Type 0) (f : X → Y) (xs : List X) → All P (map f xs) → All (λ x. P (f x)) xs
from_map P f [] all = All-nil (λ x. P (f x))
from_map {X = X} P f (x ∷ xs) all =
    let Of : X → Type 0 = λ y. P (f y) in
    All-cons Of x xs (All-head P (f x) (map f xs) all) (from_map P f xs (All-tail P (f x) (map f xs) all))

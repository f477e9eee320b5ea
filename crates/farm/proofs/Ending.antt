-- What follows from the posts of a run for its chairs and its relays.
use Rattle.std.proofs.Common.{◌≡◌, ℕ, ◌+◌, ◌≤◌, List, [], ◌∷◌, ◌++◌, All, Contains, map, length, sum_by, refl, sym, ap, ◌∙◌, subst, arith}
use Rattle.std.proofs.lemmas.List.{map-append, length-map}
use Rattle.std.proofs.lemmas.List.Elements.{All-nil, All-cons, All-head, All-tail, All-append, Contains-append_left, Contains-push}
use Rattle.std.proofs.lemmas.List.Sums.{sum_by-append, sum_by-cons}
use Rattle.lease_desk.specs.declared.chairs.Chair.{Chair}
use Rattle.lease_desk.specs.declared.desk.Desk.{Desk}
use Rattle.lease_desk.specs.Desks.{number_of, receipts_in}
use Rattle.farm_relay.specs.declared.putters.Putter.{Putter}
use Rattle.farm_relay.specs.declared.takers.Taker.{Taker}
use Rattle.farm_relay.specs.Relays.{IsPutterOf, IsTakerOf, put_by, taken_by}
use Rattle.farm_relay.proofs.RelayLaws.{still_putter, still_taker}
use Rattle.farm_threads.specs.Beside.{AreBeside}
use Rattle.farm.specs.declared.crews.Crew.{Crew}
use Rattle.farm.specs.declared.settings.Settings.{Settings}
use Rattle.farm.specs.declared.tasks.Group.{Group}
use Rattle.farm.specs.declared.tasks.FoundBundle.{FoundBundle}
use Rattle.farm.specs.declared.tasks.CheckedClaim.{CheckedClaim}
use Rattle.farm.specs.declared.posts.LenderPost.{LenderPost}
use Rattle.farm.specs.declared.posts.SolverPost.{SolverPost}
use Rattle.farm.specs.declared.posts.CheckerPost.{CheckerPost}
use Rattle.farm.specs.declared.posts.ClerkPost.{ClerkPost}
use Rattle.farm.specs.declared.posts.Posts.{Posts}
use Rattle.farm.specs.declared.relays.Relays.{Relays}
use Rattle.farm.specs.declared.relays.RelayEnds.{RelayEnds}
use Rattle.lease_book.specs.Moments.{MayTell}
use Rattle.certificate_graph.specs.Solvers.{MayFind}
use Rattle.farm.specs.Working.{IsNew, IsOnDuty}
use Rattle.farm.specs.Flows.{given, settled, given_up, handed_in, of_group, of_found, of_claim, all_lent, all_found, all_claimed}
use Rattle.farm.specs.Asks.{all_answered, all_vain}
use Rattle.farm.specs.Posts.{IsNewLender, IsNewSolver, IsNewChecker, IsNewClerk, HasLent, HasSolved, HasChecked, HasSettled, AsksTaken, CanBeManned, AreManned, steps_at}
use Rattle.farm.specs.Relaying.{AreOpened, AreAllEndsOf, IsRelayed}
use Rattle.farm.specs.Running.{AreNewPosts, HaveEnded, HaveWorked}
use Rattle.farm.proofs.Beside.{carried, each_after, as_many, same_of_each}
use Rattle.farm.proofs.Sums.{sums_below, sum_of_nothing, sum_of_parts, sum_of_zeros}
use Rattle.farm.proofs.Flows.{settled_parts}
use Rattle.farm.proofs.Gathering.{AreGathered, gathered, asked_parts, settled_at}
use Rattle.farm.proofs.Leased.{AreGivenIn, ungiven, none_lent_ungiven, taken_given}

module _ {X : Type 0} (P : X → Type 0) where
  all_left : (xs ys : List X) → All P (xs ++ ys) → All P xs
  all_left [] ys all = All-nil P
  all_left (x ∷ xs) ys all = All-cons P x xs (All-head P x (xs ++ ys) all) (all_left xs ys (All-tail P x (xs ++ ys) all))

  all_right : (xs ys : List X) → All P (xs ++ ys) → All P ys
  all_right [] ys all = all
  all_right (x ∷ xs) ys all = all_right xs ys (All-tail P x (xs ++ ys) all)

-- what holds of things by two of their parts
of_parts : {X A B : Type 0} (P : A → Type 0) (Q : B → Type 0) (N : X → Type 0) (f : X → A) (g : X → B) → ((x : X) → P (f x) → Q (g x) → N x) → (xs : List X) → All P (map f xs) → All Q (map g xs) → All N xs
of_parts P Q N f g make [] one other = All-nil N
of_parts P Q N f g make (x ∷ xs) one other =
    All-cons N x xs
    (make x (All-head P (f x) (map f xs) one) (All-head Q (g x) (map g xs) other))
    (of_parts P Q N f g make xs (All-tail P (f x) (map f xs) one) (All-tail Q (g x) (map g xs) other))

-- what holds of things by what holds of them and one of their parts
also_part : {X B : Type 0} (P : X → Type 0) (Q : B → Type 0) (N : X → Type 0) (g : X → B) → ((x : X) → P x → Q (g x) → N x) → (xs : List X) → All P xs → All Q (map g xs) → All N xs
also_part P Q N g make [] one other = All-nil N
also_part P Q N g make (x ∷ xs) one other =
    All-cons N x xs
    (make x (All-head P x xs one) (All-head Q (g x) (map g xs) other))
    (also_part P Q N g make xs (All-tail P x xs one) (All-tail Q (g x) (map g xs) other))

-- what holds of things by two facts
both_of : {X : Type 0} (P Q N : X → Type 0) → ((x : X) → P x → Q x → N x) → (xs : List X) → All P xs → All Q xs → All N xs
both_of P Q N make [] one other = All-nil N
both_of P Q N make (x ∷ xs) one other =
    All-cons N x xs
    (make x (All-head P x xs one) (All-head Q x xs other))
    (both_of P Q N make xs (All-tail P x xs one) (All-tail Q x xs other))

-- and of a part of things that it holds of
to_parts : {X Y : Type 0} (P : Y → Type 0) (f : X → Y) (xs : List X) → All (λ x. P (f x)) xs → All P (map f xs)
to_parts P f [] all = All-nil P
to_parts {X = X} P f (x ∷ xs) all =
    let Of : X → Type 0 = λ x. P (f x) in
    All-cons P (f x) (map f xs) (All-head Of x xs all) (to_parts P f xs (All-tail Of x xs all))

parts_of_parts : {X Y Z : Type 0} (g : Y → Z) (f : X → Y) (xs : List X) → map g (map f xs) ≡ map (λ x. g (f x)) xs
parts_of_parts g f [] = refl
parts_of_parts g f (x ∷ xs) = ap (λ l. g (f x) ∷ l) (parts_of_parts g f xs)

as_many_parts : {X Y : Type 0} (R : X → X → Type 0) (f : X → Y) (xs ys : List X) (l m : List Y) → l ≡ map f xs → m ≡ map f ys → AreBeside R xs ys → length m ≡ length l
as_many_parts R f xs ys l m l_is m_is are =
    let a = ap length l_is in
    let b = ap length m_is in
    omega (arith, length-map xs f, length-map ys f, as_many R xs ys are)

-- posts at new chairs with new ends are new
module _ (settings : Settings) (desk : Desk) (relays : Relays) (chairs : List Chair) (ends : RelayEnds)
    (lender : LenderPost) (posts : Posts)
    (new : All (IsNew desk) chairs) (opened : AreOpened settings relays ends) (manned : AreManned chairs ends lender posts)
    (no_steps : All (λ (p : SolverPost). p.steps ≡ 0) posts.solvers.items) where
  abbrev Others : List Chair
  Others = map (λ (p : SolverPost). p.chair) posts.solvers.items ++ map (λ (p : ClerkPost). p.chair) posts.clerks.items

  all_new : All (IsNew desk) (lender.chair ∷ Others)
  all_new = subst (λ (l : List Chair). All (IsNew desk) l) manned.chairs_are new

  new_chairs : All (IsNew desk) Others
  new_chairs = All-tail (IsNew desk) lender.chair Others all_new

  pub new_lender : IsNewLender desk lender
  new_lender =
      let None : Putter Group → Type 0 = λ p. put_by p ≡ [] in
      record {
        chair = All-head (IsNew desk) lender.chair Others all_new;
        none_put = All-head None lender.groups [] (subst (λ (l : List (Putter Group)). All None l) manned.lent opened.groups.none_put);
      }

  -- a solver's post without its second end, and without its count
  abbrev NewTaker : SolverPost → Type 0
  NewTaker post = IsNew desk post.chair × (taken_by post.groups ≡ [])

  abbrev NewEnds : SolverPost → Type 0
  NewEnds post = NewTaker post × (put_by post.found ≡ [])

  pub new_posts : AreNewPosts desk posts
  new_posts = record {
    solvers =
        both_of NewEnds (λ (p : SolverPost). p.steps ≡ 0) (IsNewSolver desk) (λ p new none. record { chair = new.0.0; none_taken = new.0.1; none_put = new.1; no_steps = none }) posts.solvers.items
        (also_part NewTaker (λ (p : Putter FoundBundle). put_by p ≡ []) NewEnds (λ (p : SolverPost). p.found) (λ p both none. (both, none)) posts.solvers.items
        (of_parts (IsNew desk) (λ (t : Taker Group). taken_by t ≡ []) NewTaker (λ (p : SolverPost). p.chair) (λ (p : SolverPost). p.groups) (λ p chair none. (chair, none)) posts.solvers.items
        (all_left (IsNew desk) _ _ new_chairs)
        (subst (λ (l : List (Taker Group)). All (λ (t : Taker Group). taken_by t ≡ []) l) manned.groups opened.groups.none_taken))
        (subst (λ (l : List (Putter FoundBundle)). All (λ (p : Putter FoundBundle). put_by p ≡ []) l) manned.finds opened.found.none_put))
        no_steps;
    checkers =
        of_parts (λ (t : Taker FoundBundle). taken_by t ≡ []) (λ (p : Putter CheckedClaim). put_by p ≡ []) IsNewChecker (λ (p : CheckerPost). p.found) (λ (p : CheckerPost). p.claims) (λ p none no. record { none_taken = none; none_put = no }) posts.checkers.items
        (subst (λ (l : List (Taker FoundBundle)). All (λ (t : Taker FoundBundle). taken_by t ≡ []) l) manned.found opened.found.none_taken)
        (subst (λ (l : List (Putter CheckedClaim)). All (λ (p : Putter CheckedClaim). put_by p ≡ []) l) manned.claims opened.claims.none_put);
    clerks =
        of_parts (IsNew desk) (λ (t : Taker CheckedClaim). taken_by t ≡ []) (IsNewClerk desk) (λ (p : ClerkPost). p.chair) (λ (p : ClerkPost). p.claims) (λ p chair none. record { chair = chair; none_taken = none }) posts.clerks.items
        (all_right (IsNew desk) _ _ new_chairs)
        (subst (λ (l : List (Taker CheckedClaim)). All (λ (t : Taker CheckedClaim). taken_by t ≡ []) l) manned.heard opened.claims.none_taken);
  }

-- each post gets what it needs
pub can_be_manned : (settings : Settings) (relays : Relays) (chairs : List Chair) (ends : RelayEnds) → AreOpened settings relays ends → length chairs ≡ settings.solvers + settings.checkers + 1 → CanBeManned chairs ends
can_be_manned settings relays chairs ends opened count =
    let a = opened.found.ends in
    let b = opened.claims.ends in
    let a' = opened.found.putters_are in
    let a'' = opened.found.takers_are in
    let b' = opened.claims.putters_are in
    let b'' = opened.claims.takers_are in
    let c = a.all_putters in
    let c' = a.all_takers in
    let d = b.all_putters in
    let d' = b.all_takers in
    let e = opened.groups.putters_are in
    let e' = opened.groups.takers_are in
    let f = opened.groups.ends.all_putters in
    let f' = opened.groups.ends.all_takers in
    record { chairs_are = omega arith; lent_are = omega arith; groups_are = omega arith; ends_are = omega arith }

module _ {S G C : Type 0} (may_tell : C → MayTell) (may_find : S → MayFind) (crew : Crew S G C) (relays : Relays) (chairs after : List Chair) (ends back : RelayEnds) (lender lent : LenderPost) (before worked : Posts)
    (opened : AreOpened crew.settings relays ends) (manned : AreManned chairs ends lender before)
    (has_lent : HasLent may_tell crew lender lent)
    (ended : HaveEnded (HasSolved may_tell may_find crew) HasChecked (HasSettled may_tell crew) before worked) (apart : AreManned after back lent worked) where
  -- all ends are back
  pub all_ends : AreAllEndsOf relays back
  all_ends =
      let groups = opened.groups.ends in
      let found = opened.found.ends in
      let claims = opened.claims.ends in
      let Puts : Putter Group → Type 0 = IsPutterOf relays.groups in
      let put_groups = All-head Puts lender.groups [] (subst (λ (l : List (Putter Group)). All Puts l) manned.lent groups.putters_are) in
      let lent_many : length back.lent.items ≡ length ends.lent.items = ap length apart.lent ∙ sym (ap length manned.lent) in
      let groups_many = as_many_parts (HasSolved may_tell may_find crew) (λ (p : SolverPost). p.groups) _ _ _ _ manned.groups apart.groups ended.solvers in
      let finds_many = as_many_parts (HasSolved may_tell may_find crew) (λ (p : SolverPost). p.found) _ _ _ _ manned.finds apart.finds ended.solvers in
      let found_many = as_many_parts HasChecked (λ (p : CheckerPost). p.found) _ _ _ _ manned.found apart.found ended.checkers in
      let claims_many = as_many_parts HasChecked (λ (p : CheckerPost). p.claims) _ _ _ _ manned.claims apart.claims ended.checkers in
      let heard_many = as_many_parts (HasSettled may_tell crew) (λ (p : ClerkPost). p.claims) _ _ _ _ manned.heard apart.heard ended.clerks in
      record {
        groups = record {
          putters_are = subst (λ (l : List (Putter Group)). All Puts l) (sym apart.lent)
              (All-cons Puts lent.groups [] (still_putter relays.groups lender.groups lent.groups has_lent.stays.groups put_groups) (All-nil Puts));
          takers_are = subst (λ (l : List (Taker Group)). All (IsTakerOf relays.groups) l) (sym apart.groups)
              (carried (HasSolved may_tell may_find crew) (IsTakerOf relays.groups) (λ (p : SolverPost). p.groups) (λ x y has is. still_taker relays.groups x.groups y.groups has.stays.groups is) _ _ ended.solvers
              (subst (λ (l : List (Taker Group)). All (IsTakerOf relays.groups) l) manned.groups groups.takers_are));
          all_putters = lent_many ∙ groups.all_putters;
          all_takers = groups_many ∙ groups.all_takers;
        };
        found = record {
          putters_are = subst (λ (l : List (Putter FoundBundle)). All (IsPutterOf relays.found) l) (sym apart.finds)
              (carried (HasSolved may_tell may_find crew) (IsPutterOf relays.found) (λ (p : SolverPost). p.found) (λ x y has is. still_putter relays.found x.found y.found has.stays.found is) _ _ ended.solvers
              (subst (λ (l : List (Putter FoundBundle)). All (IsPutterOf relays.found) l) manned.finds found.putters_are));
          takers_are = subst (λ (l : List (Taker FoundBundle)). All (IsTakerOf relays.found) l) (sym apart.found)
              (carried HasChecked (IsTakerOf relays.found) (λ (p : CheckerPost). p.found) (λ x y has is. still_taker relays.found x.found y.found has.stays.found is) _ _ ended.checkers
              (subst (λ (l : List (Taker FoundBundle)). All (IsTakerOf relays.found) l) manned.found found.takers_are));
          all_putters = finds_many ∙ found.all_putters;
          all_takers = found_many ∙ found.all_takers;
        };
        claims = record {
          putters_are = subst (λ (l : List (Putter CheckedClaim)). All (IsPutterOf relays.claims) l) (sym apart.claims)
              (carried HasChecked (IsPutterOf relays.claims) (λ (p : CheckerPost). p.claims) (λ x y has is. still_putter relays.claims x.claims y.claims has.stays.claims is) _ _ ended.checkers
              (subst (λ (l : List (Putter CheckedClaim)). All (IsPutterOf relays.claims) l) manned.claims claims.putters_are));
          takers_are = subst (λ (l : List (Taker CheckedClaim)). All (IsTakerOf relays.claims) l) (sym apart.heard)
              (carried (HasSettled may_tell crew) (IsTakerOf relays.claims) (λ (p : ClerkPost). p.claims) (λ x y has is. still_taker relays.claims x.claims y.claims has.stays.claims is) _ _ ended.clerks
              (subst (λ (l : List (Taker CheckedClaim)). All (IsTakerOf relays.claims) l) manned.heard claims.takers_are));
          all_putters = claims_many ∙ claims.all_putters;
          all_takers = heard_many ∙ claims.all_takers;
        };
      }

  abbrev Solved : List SolverPost
  Solved = worked.solvers.items

  abbrev Settled : List ClerkPost
  Settled = worked.clerks.items

  abbrev chair_of : SolverPost → Chair
  chair_of post = post.chair

  abbrev desk_chair_of : ClerkPost → Chair
  desk_chair_of post = post.chair

  abbrev AllOthers : List Chair
  AllOthers = map chair_of Solved ++ map desk_chair_of Settled

  -- a number of each chair, summed up
  sum_apart : (f : Chair → ℕ) → sum_by f after ≡ f lent.chair + (sum_by (λ (p : SolverPost). f p.chair) Solved + sum_by (λ (p : ClerkPost). f p.chair) Settled)
  sum_apart f =
      let a = ap (sum_by f) apart.chairs_are in
      omega (arith, sum_by-cons f lent.chair AllOthers, sum_by-append f (map chair_of Solved) (map desk_chair_of Settled), sum_of_parts f chair_of Solved, sum_of_parts f desk_chair_of Settled)

  -- the calls of all solvers
  abbrev Gathered : Type 0
  Gathered = AreGathered may_find crew Solved

  asked : Gathered
  asked = gathered may_find crew Solved (each_after (HasSolved may_tell may_find crew) (AsksTaken may_find crew) (λ x y has. has.asks) before.solvers.items Solved ended.solvers)

  -- the groups that solvers took are of leases that the lender was given
  groups_given : IsRelayed back → All (AreGivenIn (receipts_in lent.chair)) Solved
  groups_given relayed =
      let receipts = receipts_in lent.chair in
      let P : Putter Group → ℕ = λ p. sum_by (ungiven receipts) (put_by p) in
      let T : Taker Group → ℕ = λ t. sum_by (ungiven receipts) (taken_by t) in
      let none = none_lent_ungiven receipts (put_by lent.groups) has_lent.lends.each in
      let groups = relayed.groups (ungiven receipts) in
      let put = ap (sum_by P) apart.lent in
      let only = sum_by-cons P lent.groups [] in
      let took = ap (sum_by T) apart.groups ∙ sum_of_parts T (λ (p : SolverPost). p.groups) Solved in
      let nothing : sum_by (λ (p : SolverPost). sum_by (ungiven receipts) (taken_by p.groups)) Solved ≡ 0 = omega arith in
      taken_given receipts Solved nothing

  module _ (weight : ℕ → ℕ) where
    -- the lender gave nothing up and handed nothing in, and clerks gave nothing up
    lender_none : (given_up weight (receipts_in lent.chair) ≡ 0) × (handed_in weight (receipts_in lent.chair) ≡ 0)
    lender_none =
        let none = (has_lent.leases weight).settled_none in
        let parts = settled_parts weight (receipts_in lent.chair) in
        (omega arith, omega arith)

    clerks_none : sum_by (λ (p : ClerkPost). given_up weight (receipts_in p.chair)) Settled ≡ 0
    clerks_none = sum_of_zeros (λ (p : ClerkPost). given_up weight (receipts_in p.chair)) Settled
        (each_after (HasSettled may_tell crew) (λ p. given_up weight (receipts_in p.chair) ≡ 0) (λ x y has. (has.leases weight).given_up_none) before.clerks.items Settled ended.clerks)

    -- the leases given up are those in vain
    gave_up : sum_by (λ chair. given_up weight (receipts_in chair)) after ≡ all_vain weight asked.asks
    gave_up =
        let s = sum_apart (λ chair. given_up weight (receipts_in chair)) in
        let first = lender_none.0 in
        let solvers = asked.gave_up weight in
        let clerks = clerks_none in
        omega arith

    module _ (relayed : IsRelayed back) where
      -- the claims handed in are of answers
      claims_below : sum_by (λ chair. handed_in weight (receipts_in chair)) after ≤ all_answered weight asked.asks
      claims_below =
          let T : CheckerPost → ℕ = λ p. all_found weight (taken_by p.found) in
          let Q : CheckerPost → ℕ = λ p. all_claimed weight (put_by p.claims) in
          let H : ClerkPost → ℕ = λ p. handed_in weight (receipts_in p.chair) in
          let K : ClerkPost → ℕ = λ p. all_claimed weight (taken_by p.claims) in
          let none2 : CheckerPost → ℕ = λ p. 0 in
          let none3 : ClerkPost → ℕ = λ p. 0 in
          let checked = worked.checkers.items in
          let checkers = sums_below Q none2 T none2 checked (each_after HasChecked (λ p. Q p + none2 p ≤ T p + none2 p) (λ x y has. let own = has.leases weight in omega arith) before.checkers.items checked ended.checkers) in
          let clerks = sums_below H none3 K none3 Settled (each_after (HasSettled may_tell crew) (λ p. H p + none3 p ≤ K p + none3 p) (λ x y has. let own = (has.leases weight).handed_in_all in omega arith) before.clerks.items Settled ended.clerks) in
          let n2 = sum_of_nothing checked in
          let n3 = sum_of_nothing Settled in
          let found = relayed.found (of_found weight) in
          let claims = relayed.claims (of_claim weight) in
          let f1 = ap (sum_by (λ (p : Putter FoundBundle). all_found weight (put_by p))) apart.finds ∙ sum_of_parts (λ (p : Putter FoundBundle). all_found weight (put_by p)) (λ (p : SolverPost). p.found) Solved in
          let f2 = ap (sum_by (λ (t : Taker FoundBundle). all_found weight (taken_by t))) apart.found ∙ sum_of_parts (λ (t : Taker FoundBundle). all_found weight (taken_by t)) (λ (p : CheckerPost). p.found) checked in
          let f3 = ap (sum_by (λ (p : Putter CheckedClaim). all_claimed weight (put_by p))) apart.claims ∙ sum_of_parts (λ (p : Putter CheckedClaim). all_claimed weight (put_by p)) (λ (p : CheckerPost). p.claims) checked in
          let f4 = ap (sum_by (λ (t : Taker CheckedClaim). all_claimed weight (taken_by t))) apart.heard ∙ sum_of_parts (λ (t : Taker CheckedClaim). all_claimed weight (taken_by t)) (λ (p : ClerkPost). p.claims) Settled in
          let s = sum_apart (λ chair. handed_in weight (receipts_in chair)) in
          let first = lender_none.1 in
          let solvers = asked.handed_in_none weight in
          let answers = asked.found weight in
          omega arith

      -- what was settled was given
      leases : sum_by (λ chair. settled weight (receipts_in chair)) after ≤ sum_by (λ chair. given weight (receipts_in chair)) after
      leases =
          let own = (has_lent.leases weight).lends in
          let groups = relayed.groups (of_group weight) in
          let P : Putter Group → ℕ = λ p. all_lent weight (put_by p) in
          let l1 = ap (sum_by P) apart.lent in
          let l2 = sum_by-cons P lent.groups [] in
          let l3 = ap (sum_by (λ (t : Taker Group). all_lent weight (taken_by t))) apart.groups ∙ sum_of_parts (λ (t : Taker Group). all_lent weight (taken_by t)) (λ (p : SolverPost). p.groups) Solved in
          let taken = asked.taken weight in
          let parts = asked_parts weight asked.asks in
          let up = gave_up in
          let claims = claims_below in
          let s = settled_at weight after in
          let g = sum_apart (λ chair. given weight (receipts_in chair)) in
          omega arith

  pub have_worked : (steps : ℕ) → steps ≡ steps_at Solved → IsRelayed back → HaveWorked may_tell may_find crew chairs after steps
  have_worked steps steps_are relayed =
      let there : Contains (lent.chair ∷ AllOthers) lent.chair = Contains-append_left (lent.chair ∷ []) AllOthers lent.chair (Contains-push [] lent.chair) in
      record {
        duty = subst (λ (l : List Chair). All (IsOnDuty may_tell crew) l) (sym apart.chairs_are)
            (All-cons (IsOnDuty may_tell crew) lent.chair AllOthers has_lent.stays.chair.duty
            (All-append (IsOnDuty may_tell crew) (map chair_of Solved) (map desk_chair_of Settled)
            (to_parts (IsOnDuty may_tell crew) chair_of Solved (each_after (HasSolved may_tell may_find crew) (λ p. IsOnDuty may_tell crew p.chair) (λ x y has. has.stays.chair.duty) before.solvers.items Solved ended.solvers))
            (to_parts (IsOnDuty may_tell crew) desk_chair_of Settled (each_after (HasSettled may_tell crew) (λ p. IsOnDuty may_tell crew p.chair) (λ x y has. has.stays.chair.duty) before.clerks.items Settled ended.clerks))));
        numbers =
            let first = has_lent.stays.chair.number in
            let solved = same_of_each (HasSolved may_tell may_find crew) (λ (p : SolverPost). number_of p.chair) (λ x y has. has.stays.chair.number) before.solvers.items Solved ended.solvers in
            let settled = same_of_each (HasSettled may_tell crew) (λ (p : ClerkPost). number_of p.chair) (λ x y has. has.stays.chair.number) before.clerks.items Settled ended.clerks in
            let others = numbers_apart Solved Settled ∙ (λ i. solved i ++ settled i) ∙ sym (numbers_apart before.solvers.items before.clerks.items) in
            ap (map number_of) apart.chairs_are
            ∙ (λ i. first i ∷ others i)
            ∙ sym (ap (map number_of) manned.chairs_are);
        idle = (lent.chair, subst (λ (l : List Chair). Contains l lent.chair) (sym apart.chairs_are) there, has_lent.idle);
        leases = λ weight. leases weight relayed;
        asks = asked.asks;
        asked = asked.asked;
        lender = lent.chair;
        is_one = subst (λ (l : List Chair). Contains l lent.chair) (sym apart.chairs_are) there;
        given = asked.given (receipts_in lent.chair) (groups_given relayed);
        gave_up = gave_up;
        handed_in = λ weight. claims_below weight relayed;
        counted = steps_are ∙ asked.counted;
      }
    where
      numbers_apart : (solved : List SolverPost) (settled : List ClerkPost) → map number_of (map chair_of solved ++ map desk_chair_of settled) ≡ map (λ (p : SolverPost). number_of p.chair) solved ++ map (λ (p : ClerkPost). number_of p.chair) settled
      numbers_apart solved settled =
          map-append number_of (map chair_of solved) (map desk_chair_of settled)
          ∙ (λ i. parts_of_parts number_of chair_of solved i ++ parts_of_parts number_of desk_chair_of settled i)

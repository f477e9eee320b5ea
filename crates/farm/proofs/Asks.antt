-- What comes of calls of the solver, one after another.
use Rattle.std.proofs.Common.{◌≡◌, ℕ, ◌+◌, ◌-◌, ◌^◌, min, not, List, [], ◌∷◌, ◌++◌, Option, Some, None, Result, Ok, All, map, filter, length, refl, sym, ap, ◌∙◌, subst, inl, inr, ⊎_elim, arith}
use Rattle.std.proofs.lemmas.List.{map-append}
use Rattle.std.proofs.lemmas.List.Elements.{All-push, All-weaker, Contains-push, Contains-append_left}
use Rattle.std.proofs.lemmas.List.Sums.{sum_by_push}
use Rattle.std.specs.declared.alloc.AllocError.{AllocError}
use Rattle.certificate_graph.specs.declared.bundles.Bundle.{Bundle}
use Rattle.lease_desk.specs.Desks.{receipts_in}
use Rattle.lease_desk.specs.declared.receipts.Receipt.{Receipt}
use Rattle.farm_relay.specs.Relays.{put_by, taken_by}
use Rattle.farm.specs.declared.crews.Crew.{Crew}
use Rattle.farm.specs.declared.tasks.Task.{Task}
use Rattle.farm.specs.declared.tasks.Group.{Group}
use Rattle.farm.specs.declared.tasks.FoundBundle.{FoundBundle}
use Rattle.farm.specs.declared.posts.SolverPost.{SolverPost}
use Rattle.certificate_graph.specs.Solvers.{MayFind}
use Rattle.farm.specs.Groups.{is_claimed}
use Rattle.farm.specs.Flows.{of_tasks, of_found, all_found, GaveUp}
use Rattle.farm.specs.Asks.{Ask, IsAsked, found_in, has_claim, claimed_in, vain_in, steps_of, steps_in, all_vain, all_steps, as_counted}
use Rattle.farm.specs.Findings.{IsFoundBy, PutsLeases}
use Rattle.farm.specs.Posts.{Answers, AsksFor, AsksTaken}

-- without a bundle no lease has a claim
pub none_claimed : (tasks : List Task) → filter (has_claim None) tasks ≡ []
none_claimed [] = refl
none_claimed (task ∷ tasks) = none_claimed tasks

pub all_in_vain : (tasks : List Task) → filter (λ task. not (has_claim None task)) tasks ≡ tasks
all_in_vain [] = refl
all_in_vain (task ∷ tasks) = ap (λ l. task ∷ l) (all_in_vain tasks)

-- what is done if there is no bundle
pub answers_vain : (tasks : List Task) (answer : Result (Option Bundle) AllocError) (old new : SolverPost) → found_in answer ≡ None
    → new.found ≡ old.found
    → ((weight : ℕ → ℕ) → GaveUp weight (receipts_in old.chair) (receipts_in new.chair) (of_tasks weight tasks))
    → as_counted new.steps ≡ as_counted (old.steps + steps_of answer (length tasks))
    → Answers (record { tasks = tasks; answer = answer }) old new
answers_vain tasks answer old new is same gave steps =
    let ask : Ask = record { tasks = tasks; answer = answer } in
    let none : claimed_in ask ≡ [] = subst (λ (f : Option Bundle). filter (has_claim f) tasks ≡ []) (sym is) (none_claimed tasks) in
    let vain : vain_in ask ≡ tasks = subst (λ (f : Option Bundle). filter (λ task. not (has_claim f task)) tasks ≡ tasks) (sym is) (all_in_vain tasks) in
    record {
      puts = inl (none, ap put_by same);
      gives_up = λ weight. subst (λ (l : List Task). GaveUp weight (receipts_in old.chair) (receipts_in new.chair) (of_tasks weight l)) (sym vain) (gave weight);
      steps = steps ∙ ap (λ (l : List Task). as_counted (old.steps + steps_of answer (length l))) (sym vain);
    }

counted_twice : (most n : ℕ) → min (min n most) most ≡ min n most
counted_twice most n = omega arith

pub counted_is : (m n : ℕ) → m ≡ as_counted n → as_counted m ≡ as_counted n
counted_is m n is = ap as_counted is ∙ counted_twice (2 ^ 64 - 1) n

-- what is done with a bundle
pub answers_found : (group tasks others : List Task) (bundle : Bundle) (old new : SolverPost)
    → tasks ≡ filter (is_claimed bundle) group → others ≡ filter (λ task. not (is_claimed bundle task)) group
    → ((weight : ℕ → ℕ) → GaveUp weight (receipts_in old.chair) (receipts_in new.chair) (of_tasks weight others))
    → new.steps ≡ as_counted (old.steps + length others)
    → PutsLeases tasks bundle (put_by old.found) (put_by new.found)
    → Answers (record { tasks = group; answer = Ok (Some bundle) }) old new
answers_found group tasks others bundle old new tasks_are others_are gave steps puts = record {
  puts = ⊎_elim
      (λ none. inl (sym tasks_are ∙ none.0, none.1))
      (λ one. inr (one.0, record { found = ap (λ (b : Bundle). Some b) (sym one.2); tasks_are = one.1 ∙ tasks_are }, one.3))
      puts;
  gives_up = λ weight. subst (λ (l : List Task). GaveUp weight (receipts_in old.chair) (receipts_in new.chair) (of_tasks weight l)) others_are (gave weight);
  steps = counted_is new.steps (old.steps + length others) steps ∙ ap (λ (l : List Task). as_counted (old.steps + length l)) others_are;
}

-- leases that were given up twice
pub gave_up_then : (weight : ℕ → ℕ) (first now last : List Receipt) (one other : ℕ) → GaveUp weight first now one → GaveUp weight now last other → GaveUp weight first last (one + other)
gave_up_then weight first now last one other before after =
    let a = before.gave_up in
    let b = before.handed_in_none in
    let c = before.given_none in
    let a' = after.gave_up in
    let b' = after.handed_in_none in
    let c' = after.given_none in
    record { gave_up = omega arith; handed_in_none = omega arith; given_none = omega arith }

-- a count that goes on
counted_more : (most n all more : ℕ) → min n most ≡ min all most → min (n + more) most ≡ min (all + more) most
counted_more most n all more is = omega arith

-- one call more
found_still : (asks : List Ask) (ask : Ask) (message : FoundBundle) → IsFoundBy asks message → IsFoundBy (asks ++ ask ∷ []) message
found_still asks ask message is = record {
  ask = is.ask;
  is_one = Contains-append_left asks (ask ∷ []) is.ask is.is_one;
  answers = is.answers;
}

module _ {S G C : Type 0} (may_find : S → MayFind) (crew : Crew S G C) where
  -- what was asked for the groups taken before, and for one group more
  pub asks_more : (old now new : SolverPost) (group : Group) → taken_by new.groups ≡ taken_by old.groups ++ group ∷ []
      → old.chair ≡ now.chair → old.found ≡ now.found → old.steps ≡ now.steps
      → AsksTaken may_find crew old → AsksFor may_find crew group.tasks.items now new → AsksTaken may_find crew new
  asks_more old now new group took chair found steps own more =
      let ask = more.ask in
      let asks = own.asks ++ ask ∷ [] in
      let Of : FoundBundle → Type 0 = IsFoundBy asks in
      let still : All Of (put_by now.found) = subst (λ p. All Of (put_by p)) found (All-weaker (IsFoundBy own.asks) Of (found_still own.asks ask) (put_by old.found) own.finds) in
      record {
        asks = asks;
        asked = All-push (IsAsked (may_find crew.means.solver.now) crew.deals.now crew.settings.budget) own.asks ask own.asked more.asked;
        groups =
            map-append (λ (a : Ask). a.tasks) own.asks (ask ∷ [])
            ∙ (λ i. own.groups i ++ more.tasks_are i ∷ [])
            ∙ sym (map-append (λ (g : Group). g.tasks.items) (taken_by old.groups) (group ∷ []))
            ∙ sym (ap (map (λ (g : Group). g.tasks.items)) took);
        finds = ⊎_elim
            (λ none. subst (λ (l : List FoundBundle). All Of l) (sym none.1) still)
            (λ one.
            let last : Of one.0 = record { ask = ask; is_one = Contains-push own.asks ask; answers = one.1 } in
            subst (λ (l : List FoundBundle). All Of l) (sym one.2) (All-push Of (put_by now.found) one.0 still last))
            more.answers.puts;
        found = λ weight.
            let before = ap (λ p. all_found weight (put_by p)) found in
            let so_far = own.found weight in
            let push = sum_by_push (λ (a : Ask). of_tasks weight (claimed_in a)) own.asks ask in
            ⊎_elim
            (λ none.
            let nothing = ap (of_tasks weight) none.0 in
            let same = ap (all_found weight) none.1 in
            omega arith)
            (λ one.
            let is = ap (of_tasks weight) one.1.tasks_are in
            let put = ap (all_found weight) one.2 in
            let push' = sum_by_push (of_found weight) (put_by now.found) one.0 in
            omega arith)
            more.answers.puts;
        gave_up = λ weight.
            let all = sum_by_push (λ (a : Ask). of_tasks weight (vain_in a)) own.asks ask in
            let both = gave_up_then weight [] (receipts_in old.chair) (receipts_in new.chair) (all_vain weight own.asks) (of_tasks weight (vain_in ask)) (own.gave_up weight)
            (subst (λ k. GaveUp weight (receipts_in k) (receipts_in new.chair) (of_tasks weight (vain_in ask))) (sym chair) (more.answers.gives_up weight)) in
            subst (λ n. GaveUp weight [] (receipts_in new.chair) n) (sym all) both;
        steps =
            let now_steps = subst (λ n. as_counted new.steps ≡ as_counted (n + steps_in ask)) (sym steps) more.answers.steps in
            let push = ap as_counted (sum_by_push steps_in own.asks ask) in
            now_steps ∙ counted_more (2 ^ 64 - 1) old.steps (all_steps own.asks) (steps_in ask) own.steps ∙ sym push;
      }

-- Each step at the channel keeps its rule.
use Rattle.std.proofs.Common.{◌≡◌, ℕ, ◌<◌, List, sum_by, set, refl, arith}
use Rattle.std.proofs.lemmas.List.Elements.{All-set, All-push}
use Rattle.std.proofs.lemmas.List.Sums.{sum_by-cons, sum_by_push, sum_by-append}
use Rattle.crossbeam_channel.specs.Fifo.{Pushes, Pops, Forks, Merges, Learns}
use Rattle.farm_relay.specs.declared.items.Item.{Item}
use Rattle.farm_relay.specs.declared.tallies.Tally.{Tally}
use Rattle.farm_relay.specs.Tallies.{fresh, spent, sharing, joined, with_put, with_taken}
use Rattle.farm_relay.specs.Rule.{IsBalanced, IsIdle, IsAt}
use Rattle.farm_relay.specs.Steps.{Put, Took, Silent}
use Rattle.farm_relay.proofs.Sums.{sum_set}

module _ {T : Type 0} where
  -- whose tally changes has a share
  has_share : (v w : Tally T) → w.shares ≡ v.shares → 0 < v.shares → IsIdle w
  has_share v w same some_share none = absurd (omega arith)

  pub puts : (n pass : ℕ) (v : Tally T) (item : Item T) → 0 < v.shares → Pushes IsBalanced n pass v item (Put v item)
  puts n pass v item some_share items tallies room b at =
      let w : Tally T = with_put v item in (
        w,
        record {
          shared = (let s = sum_set (λ (u : Tally T). u.shares) tallies pass v w at in let p = b.shared in omega arith);
          even = λ weight.
              let s = sum_set (λ (u : Tally T). sum_by weight u.put) tallies pass v w at in
              let t = sum_set (λ (u : Tally T). sum_by weight u.taken) tallies pass v w at in
              let p = b.even weight in
              omega (arith, sum_by_push weight v.put item, sum_by_push weight items item);
          idle = All-set IsIdle tallies pass w (has_share v w refl some_share) b.idle;
        },
        refl,
      )

  pub takes : (pass : ℕ) (v : Tally T) → 0 < v.shares → Pops IsBalanced pass v (Took v)
  takes pass v some_share item items tallies b at =
      let w : Tally T = with_taken v item in (
        w,
        record {
          shared = (let s = sum_set (λ (u : Tally T). u.shares) tallies pass v w at in let p = b.shared in omega arith);
          even = λ weight.
              let s = sum_set (λ (u : Tally T). sum_by weight u.put) tallies pass v w at in
              let t = sum_set (λ (u : Tally T). sum_by weight u.taken) tallies pass v w at in
              let p = b.even weight in
              omega (arith, sum_by_push weight v.taken item, sum_by-cons weight item items);
          idle = All-set IsIdle tallies pass w (has_share v w refl some_share) b.idle;
        },
        refl,
      )

  -- the rule asks nothing of who is silent
  pub silent : (pass : ℕ) (v : Tally T) → Learns IsBalanced pass v (Silent v)
  silent pass v items tallies b at = tt

  -- a pass shows that the channel came to this
  pub sees : (pass : ℕ) (v : Tally T) → Learns IsBalanced pass v (IsAt v)
  sees pass v items tallies b at = record { tallies = tallies; pass = pass; balanced = b; there = at }

  pub shares : (pass : ℕ) (v : Tally T) → 1 < v.shares → Forks IsBalanced pass v (sharing v) fresh
  shares pass v some_left items tallies b at =
      let left : Tally T = sharing v in
      let l : List (Tally T) = set tallies pass left in
      record {
        shared = (let s = sum_set (λ (u : Tally T). u.shares) tallies pass v left at in let p = b.shared in omega (arith, sum_by_push (λ (u : Tally T). u.shares) l fresh));
        even = λ weight.
            let s = sum_set (λ (u : Tally T). sum_by weight u.put) tallies pass v left at in
            let t = sum_set (λ (u : Tally T). sum_by weight u.taken) tallies pass v left at in
            let p = b.even weight in
            omega (arith, sum_by_push (λ (u : Tally T). sum_by weight u.put) l fresh, sum_by_push (λ (u : Tally T). sum_by weight u.taken) l fresh);
        idle = All-push IsIdle l fresh (All-set IsIdle tallies pass left (λ none. absurd (omega arith)) b.idle) (λ none. (refl, refl));
      }

  pub joins : (pass : ℕ) (v : Tally T) (other : ℕ) (u : Tally T) → 0 < v.shares → Merges IsBalanced pass v other u (joined v u) spent
  joins pass v other u some_share items tallies b at apart at_other =
      let both : Tally T = joined v u in
      let l : List (Tally T) = set tallies pass both in
      record {
        shared = (
            let s = sum_set (λ (u : Tally T). u.shares) tallies pass v both at in
            let t = sum_set (λ (u : Tally T). u.shares) l other u spent at_other in
            let p = b.shared in omega arith
            );
        even = λ weight.
            let s = sum_set (λ (u : Tally T). sum_by weight u.put) tallies pass v both at in
            let s' = sum_set (λ (u : Tally T). sum_by weight u.put) l other u spent at_other in
            let t = sum_set (λ (u : Tally T). sum_by weight u.taken) tallies pass v both at in
            let t' = sum_set (λ (u : Tally T). sum_by weight u.taken) l other u spent at_other in
            let p = b.even weight in
            omega (arith, sum_by-append weight v.put u.put, sum_by-append weight v.taken u.taken);
        idle = All-set IsIdle l other spent (λ none. (refl, refl)) (All-set IsIdle tallies pass both (λ none. absurd (omega arith)) b.idle);
      }

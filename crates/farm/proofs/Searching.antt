-- What came of the leases of a whole run.
use Rattle.std.proofs.Common.{◌≡◌, ℕ, ◌+◌, ◌-◌, ◌^◌, ◌≤◌, min, List, [], ◌++◌, Option, sym, ap, ◌∙◌, subst, arith}
use Rattle.cards.specs.Deal.{Deal}
use Rattle.certificate_graph.specs.Solvers.{MayFind}
use Rattle.lease_book.specs.declared.events.Event.{Event}
use Rattle.lease_book.specs.Books.{Ledger}
use Rattle.lease_book.specs.Histories.{Terms}
use Rattle.lease_book.specs.Moments.{MayTell}
use Rattle.lease_book.specs.Settling.{given_in}
use Rattle.farm.specs.declared.unclaimed.Unclaimed.{Unclaimed}
use Rattle.farm.specs.Leases.{all_handed_in, one_each, unclaimed_with}
use Rattle.farm.specs.Asks.{IsAsked, all_vain}
use Rattle.farm.specs.Searched.{AreAskedFor, AreSearched, AreSearchedSince, deals_in}
use Rattle.farm.specs.Rounds.{GoesRound}
use Rattle.farm.proofs.Gathering.{all_steps_below}

-- the count is exact, since it is below the count of the leases
counted_all : (most steps all vain handed given : ℕ) → steps ≡ min all most → all ≤ vain → vain + handed ≤ given → given ≤ most → steps ≡ all
counted_all most steps all vain handed given counted below settled bound = omega arith

rest_is : (steps all vain handed given : ℕ) → steps ≡ all → all ≤ vain → vain + handed ≤ given → steps + (given - handed - steps) + handed ≡ given
rest_is steps all vain handed given exact below settled = omega arith

pub searched_since : (may_find : MayFind) (may_tell : MayTell) (budget : ℕ) (deals : List (Option Deal)) (old new : Ledger) (steps : ℕ) (unclaimed : Unclaimed)
    (goes : GoesRound may_tell (IsAsked may_find deals budget) old new steps) → deals ≡ deals_in old.terms.boards
    → given_in one_each goes.on.later ≤ 2 ^ 64 - 1 → unclaimed ≡ unclaimed_with steps goes.on.later
    → AreSearchedSince may_find budget old new unclaimed
searched_since may_find may_tell budget deals old new steps unclaimed goes deals_are bound is =
    let later = goes.on.later in
    let below : goes.all ≤ all_vain one_each goes.asked.asks = subst (λ n. n ≤ all_vain one_each goes.asked.asks) (sym goes.asked.steps_are) (all_steps_below goes.asked.asks) in
    let settled = goes.asked.settled one_each in
    let exact : steps ≡ goes.all = counted_all (2 ^ 64 - 1) steps goes.all (all_vain one_each goes.asked.asks) (all_handed_in one_each later) (given_in one_each later) goes.counted below settled bound in
    let boards = ap (λ (t : Terms). deals_in t.boards) goes.on.terms_are in
    record {
      later = later;
      events_are = goes.on.events_are;
      searched = subst (λ (u : Unclaimed). AreSearched may_find budget u new.terms later) (sym is)
          (record {
            asked = subst (λ (ds : List (Option Deal)). AreAskedFor (IsAsked may_find ds budget) later steps) (deals_are ∙ sym boards)
                (subst (λ n. AreAskedFor (IsAsked may_find deals budget) later n) (sym exact) goes.asked);
            all = rest_is steps goes.all (all_vain one_each goes.asked.asks) (all_handed_in one_each later) (given_in one_each later) exact below settled;
          });
    }

-- a run of a new book
pub searched_all : (may_find : MayFind) (budget : ℕ) (old new : Ledger) (unclaimed : Unclaimed) → old.events ≡ [] → AreSearchedSince may_find budget old new unclaimed → AreSearched may_find budget unclaimed new.terms new.events
searched_all may_find budget old new unclaimed none since =
    subst (λ (l : List Event). AreSearched may_find budget unclaimed new.terms l) (sym (since.events_are ∙ ap (λ (l : List Event). l ++ since.later) none)) since.searched
